-- The parts of the bytes are those of the progress.
use Rattle.std.proofs.Common.{◌∙◌, ap, rules}
use Rattle.std.specs.Prelude.{Some}
use Rattle.wf_peer.specs.declared.progress.Progress.{Progress}
use Rattle.wf_peer.proofs.Decoded.{progress_parts, progress_whole}
use Rattle.wf_peer.proofs.Parts.{same_progress}
use Rattle.wf_peer.proofs.decoder.progress_of.Goals as goal

pub returns-in_err-promise-clause-each : goal.returns-in_err-promise-clause-each
returns-in_err-promise-clause-each c = λ p is e.
    let parts = progress_parts c.args.bytes.now c.split_at.result.1.now c.split_at-2.result.1.now c.split_at-3.result.1.now c.split_at-4.result.1.now c.split_at-5.result.1.now c.split_at.result.0.now c.split_at-2.result.0.now c.split_at-3.result.0.now c.split_at-4.result.0.now c.split_at-5.result.0.now c.split_at-6.result.0.now c.split_at-6.result.1.now c.split_at.ensures.front c.split_at.ensures.back c.split_at-2.ensures.front c.split_at-2.ensures.back c.split_at-3.ensures.front c.split_at-3.ensures.back c.split_at-4.ensures.front c.split_at-4.ensures.back c.split_at-5.ensures.front c.split_at-5.ensures.back c.split_at-6.ensures.front c.split_at-6.ensures.back p is e in
    let got = c.promise_of.ensures.each p.promise is.promise parts.4 in
    let none = c.in_err-promise.was in
    cc

pub returns-in_default-clause-each : goal.returns-in_default-clause-each
returns-in_default-clause-each c = λ p is e.
    let parts = progress_parts c.args.bytes.now c.split_at.result.1.now c.split_at-2.result.1.now c.split_at-3.result.1.now c.split_at-4.result.1.now c.split_at-5.result.1.now c.split_at.result.0.now c.split_at-2.result.0.now c.split_at-3.result.0.now c.split_at-4.result.0.now c.split_at-5.result.0.now c.split_at-6.result.0.now c.split_at-6.result.1.now c.split_at.ensures.front c.split_at.ensures.back c.split_at-2.ensures.front c.split_at-2.ensures.back c.split_at-3.ensures.front c.split_at-3.ensures.back c.split_at-4.ensures.front c.split_at-4.ensures.back c.split_at-5.ensures.front c.split_at-5.ensures.back c.split_at-6.ensures.front c.split_at-6.ensures.back p is e in
    let got = c.in_default.ensures.each p.vote is.vote parts.5 in
    cc

pub returns-in_err-published-clause-each : goal.returns-in_err-published-clause-each
returns-in_err-published-clause-each c = λ p is e.
    let parts = progress_parts c.args.bytes.now c.split_at.result.1.now c.split_at-2.result.1.now c.split_at-3.result.1.now c.split_at-4.result.1.now c.split_at-5.result.1.now c.split_at.result.0.now c.split_at-2.result.0.now c.split_at-3.result.0.now c.split_at-4.result.0.now c.split_at-5.result.0.now c.split_at-6.result.0.now c.split_at-6.result.1.now c.split_at.ensures.front c.split_at.ensures.back c.split_at-2.ensures.front c.split_at-2.ensures.back c.split_at-3.ensures.front c.split_at-3.ensures.back c.split_at-4.ensures.front c.split_at-4.ensures.back c.split_at-5.ensures.front c.split_at-5.ensures.back c.split_at-6.ensures.front c.split_at-6.ensures.back p is e in
    let got = c.from_bytes.ensures.each p.published is.published parts.6 in
    let none = c.in_err-published.was in
    cc

pub returns-clause-progress : goal.returns-clause-progress
returns-clause-progress c = record {
  mark = search rules;
  starts = search rules;
  life = search rules;
  round = search rules;
  promise = search rules;
  vote = search rules;
  published = search rules;
}

pub returns-clause-some : goal.returns-clause-some
returns-clause-some c = progress_whole c.args.bytes.now c.split_at.result.1.now c.split_at-2.result.1.now c.split_at-3.result.1.now c.split_at-4.result.1.now c.split_at-5.result.1.now c.split_at.result.0.now c.split_at-2.result.0.now c.split_at-3.result.0.now c.split_at-4.result.0.now c.split_at-5.result.0.now c.split_at-6.result.0.now c.split_at-6.result.1.now c.split_at.ensures.front c.split_at.ensures.back c.split_at-2.ensures.front c.split_at-2.ensures.back c.split_at-3.ensures.front c.split_at-3.ensures.back c.split_at-4.ensures.front c.split_at-4.ensures.back c.split_at-5.ensures.front c.split_at-5.ensures.back c.split_at-6.ensures.front c.split_at-6.ensures.back _ c.array.ensures c.number_of.ensures.bytes c.array-2.ensures c.number_of-2.ensures.bytes c.in_ok-promise.ensures.some c.in-Some.ensures.some c.in_ok-published.ensures.value

pub returns-clause-each : goal.returns-clause-each
returns-clause-each c = λ p is e.
    let parts = progress_parts c.args.bytes.now c.split_at.result.1.now c.split_at-2.result.1.now c.split_at-3.result.1.now c.split_at-4.result.1.now c.split_at-5.result.1.now c.split_at.result.0.now c.split_at-2.result.0.now c.split_at-3.result.0.now c.split_at-4.result.0.now c.split_at-5.result.0.now c.split_at-6.result.0.now c.split_at-6.result.1.now c.split_at.ensures.front c.split_at.ensures.back c.split_at-2.ensures.front c.split_at-2.ensures.back c.split_at-3.ensures.front c.split_at-3.ensures.back c.split_at-4.ensures.front c.split_at-4.ensures.back c.split_at-5.ensures.front c.split_at-5.ensures.back c.split_at-6.ensures.front c.split_at-6.ensures.back p is e in
    let promise = c.promise_of.ensures.each p.promise is.promise parts.4 in
    let was_promise = c.in_ok-promise.was in
    let vote = c.vote_of.ensures.each p.vote is.vote parts.5 in
    let was_vote = c.in-Some.is in
    let published = c.from_bytes.ensures.each p.published is.published parts.6 in
    let was_published = c.in_ok-published.was in
    ap (λ (q : Progress). Some q) (same_progress _ p (c.array.ensures ∙ parts.0) (c.number_of.ensures.each p.starts is.starts parts.1) (c.array-2.ensures ∙ parts.2) (c.number_of-2.ensures.each p.round is.round parts.3) (cc) (cc) (cc))
