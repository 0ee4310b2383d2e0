-- The bytes are nothing, or a text and others.
use Rattle.std.proofs.Common.{rules, ◌≡◌, ◌∙◌, ◌≤◌, ◌++◌, List, [], length, ap, sym, arith, append-nil}
use Rattle.std.proofs.lemmas.Grind.{common_steps}
use Rattle.wf_def.specs.Definition.{Definition}
use Rattle.wf_reader.proofs.Texts.{each_more, first_found, fits, none_found, rest_few}
use Rattle.wf_reader.specs.Reply.{texts_bytes}
use Rattle.wf_spelling.specs.Canon.{canon}
use Rattle.wf_reader.proofs.reply_decoder.+push_texts.Goals as goal

pub returns-then-is_empty-clause-each : goal.returns-then-is_empty-clause-each
returns-then-is_empty-clause-each t c = λ found texts few is.
    let none : c.args.bytes.now ≡ [] = grind (arith, common_steps) in
    let nothing = none_found c.args.bytes.now found none is in
    sym (ap (λ (l : List Definition). c.args.definitions.now.items ++ l) nothing ∙ append-nil c.args.definitions.now.items)

pub returns-in_default-clause-each : goal.returns-in_default-clause-each
returns-in_default-clause-each t c = λ found texts few is.
    let some : 1 ≤ length c.args.bytes.now = grind (arith, common_steps) in
    let first = first_found c.args.bytes.now found some texts is in
    absurd (rw c.in_default.is at (c.cut_text.ensures.each (canon first.first) (texts_bytes first.rest) (fits c.args.bytes.now found first) first.bytes_are))

pub returns-in-Err-clause-each : goal.returns-in-Err-clause-each
returns-in-Err-clause-each t c = λ found texts few is.
    let some : 1 ≤ length c.args.bytes.now = grind (arith, common_steps) in
    let first = first_found c.args.bytes.now found some texts is in
    let cut = rw c.in-Some.is at (c.cut_text.ensures.each (canon first.first) (texts_bytes first.rest) (fits c.args.bytes.now found first) first.bytes_are) in
    c.in-Err.ensures.each first.first first.text cut.0

pub returns-in_ok-push-in-Ok-clause-each : goal.returns-in_ok-push-in-Ok-clause-each
returns-in_ok-push-in-Ok-clause-each t c = λ found texts few is.
    let some : 1 ≤ length c.args.bytes.now = grind (arith, common_steps) in
    let first = first_found c.args.bytes.now found some texts is in
    let cut = rw c.in-Some.is at (c.cut_text.ensures.each (canon first.first) (texts_bytes first.rest) (fits c.args.bytes.now found first) first.bytes_are) in
    each_more c.push_texts.result c.args.definitions.now.items c.push.new.self.items c.push_texts.new.definitions.items found first.rest c.in-Ok.definition first.first
    (search rules) (c.in-Ok.ensures.each first.first first.text cut.0) first.whole
    (c.push_texts.ensures.each first.rest first.texts (rest_few c.args.bytes.now found first c.args.most few) cut.1)
