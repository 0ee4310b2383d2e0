-- The parts of the bytes are those of the question.
use Rattle.std.proofs.Common.{◌≡◌, ◌∙◌, ap, sym, subst}
use Rattle.std.specs.Prelude.{Some, IsSome, is_some, false}
use Rattle.wf_folder.specs.Name.{IsFarmName}
use Rattle.wf_reader.specs.declared.question.Question.{Question}
use Rattle.wf_reader.proofs.Parts.{question_parts, question_whole, same_question}
use Rattle.wf_reader.proofs.question_bytes.body_of.Goals as goal

pub returns-in_err-farm-clause-each : goal.returns-in_err-farm-clause-each
returns-in_err-farm-clause-each c = λ q is e.
    let parts = question_parts c.args.bytes.now c.split_at.result.1.now c.split_at.result.0.now c.split_at-2.result.0.now c.split_at-2.result.1.now c.split_at.ensures.front c.split_at.ensures.back c.split_at-2.ensures.front c.split_at-2.ensures.back q is e in
    let some : IsSome c.from_bytes.result = c.from_bytes.ensures.valid.1 (subst IsFarmName (sym parts.0) is.farm) in
    let none : is_some c.from_bytes.result ≡ false = ap (λ (o : _). is_some o) c.in_err-farm.was in
    cc

pub returns-in_err-published-clause-each : goal.returns-in_err-published-clause-each
returns-in_err-published-clause-each c = λ q is e.
    let parts = question_parts c.args.bytes.now c.split_at.result.1.now c.split_at.result.0.now c.split_at-2.result.0.now c.split_at-2.result.1.now c.split_at.ensures.front c.split_at.ensures.back c.split_at-2.ensures.front c.split_at-2.ensures.back q is e in
    let got = c.from_bytes-2.ensures.each q.published is.published parts.1 in
    let none = c.in_err-published.was in
    cc

pub returns-clause-some : goal.returns-clause-some
returns-clause-some c = question_whole c.args.bytes.now c.split_at.result.1.now c.split_at.result.0.now c.split_at-2.result.0.now c.split_at-2.result.1.now c.split_at.ensures.front c.split_at.ensures.back c.split_at-2.ensures.front c.split_at-2.ensures.back _ c.in_ok-farm.ensures.value c.in_ok-published.ensures.value c.array.ensures

pub returns-clause-each : goal.returns-clause-each
returns-clause-each c = λ q is e.
    let parts = question_parts c.args.bytes.now c.split_at.result.1.now c.split_at.result.0.now c.split_at-2.result.0.now c.split_at-2.result.1.now c.split_at.ensures.front c.split_at.ensures.back c.split_at-2.ensures.front c.split_at-2.ensures.back q is e in
    let got = c.from_bytes-2.ensures.each q.published is.published parts.1 in
    let was = c.in_ok-published.was in
    ap (λ (x : Question). Some x) (same_question _ q (c.in_ok-farm.ensures.value ∙ parts.0) (cc) (c.array.ensures ∙ parts.2))
