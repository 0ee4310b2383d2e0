-- The parts are determined, one after the other.
use Rattle.std.proofs.Common.{◌∙◌, sym, codes}
use Rattle.wf_folder.specs.Words.{reach_then}
use Rattle.wf_folder.proofs.WordLemmas.{after_number, after_promise, if_none, is_reach}
use Rattle.wf_folder.proofs.word_reader.split_reach.Goals as goal

pub returns-in_err-round-clause-none : goal.returns-in_err-round-clause-none
unfolding reach_then
returns-in_err-round-clause-none c = if_none c.from_residual.result (λ r rest is e. c.in_err-round.ensures.none r.round _ is.of_round e)

pub returns-in_default-clause-none : goal.returns-in_default-clause-none
unfolding reach_then
returns-in_default-clause-none c = λ r rest is e.
    c.in_default.ensures.none r.promise _ is.of_promise (after_number (codes " tried ") c.in_ok-round.round r.round c.in_ok-round.rest.now _ (sym c.in_ok-round.ensures.some ∙ e))

pub returns-in_default-split_end-clause-none : goal.returns-in_default-split_end-clause-none
unfolding reach_then
returns-in_default-split_end-clause-none c = λ r rest is e.
    let promise = after_number (codes " tried ") c.in_ok-round.round r.round c.in_ok-round.rest.now _ (sym c.in_ok-round.ensures.some ∙ e) in
    let ends = after_promise c.in-Some.promise r.promise c.in-Some.rest.now _ (sym c.in-Some.ensures.some ∙ promise) in
    c.in_default-split_end.ensures.none r.vote r.published rest is.of_vote is.of_published ends

pub returns-clause-some : goal.returns-clause-some
returns-clause-some c = is_reach c.args.bytes.now c.in_ok-round.rest.now c.in-Some.rest.now c.in-Some-split_end.rest.now _ c.in_ok-round.ensures.some c.in-Some.ensures.some c.in-Some-split_end.ensures.some
