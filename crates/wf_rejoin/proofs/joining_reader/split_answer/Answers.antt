-- The parts of a line are determined, one after the other.
use Rattle.std.proofs.Common.{◌∙◌, sym, codes, arith}
use Rattle.wf_folder.proofs.WordLemmas.{after_number, both_numbers, if_none}
use Rattle.wf_rejoin.specs.JoiningText.{stage_line}
use Rattle.wf_rejoin.proofs.Stages.{is_answered}
use Rattle.wf_rejoin.proofs.joining_reader.split_answer.Goals as goal

pub returns-in_err-published-clause-none : goal.returns-in_err-published-clause-none
unfolding stage_line
returns-in_err-published-clause-none c = if_none c.from_residual.result (λ a rest is e. c.in_err-published.ensures.none a.published _ (omega (arith, is.published)) e)

pub returns-in_err-voted-clause-none : goal.returns-in_err-voted-clause-none
unfolding stage_line
returns-in_err-voted-clause-none c = if_none c.from_residual-in_err-voted.result (λ a rest is e.
    let voted = after_number (codes "published ") c.in_ok-published.published a.published c.in_ok-published.rest.now _ (sym c.in_ok-published.ensures.some ∙ e) in
    c.in_err-voted.ensures.none a.voted _ (omega (arith, is.voted)) voted)

pub returns-in_err-rest-clause-none : goal.returns-in_err-rest-clause-none
unfolding stage_line
returns-in_err-rest-clause-none c = if_none c.from_residual-in_err-rest.result (λ a rest is e.
    let voted = after_number (codes "published ") c.in_ok-published.published a.published c.in_ok-published.rest.now _ (sym c.in_ok-published.ensures.some ∙ e) in
    let end = after_number (codes " voted ") c.in_ok-voted.voted a.voted c.in_ok-voted.rest.now _ (sym c.in_ok-voted.ensures.some ∙ voted) in
    c.in_err-rest.ensures rest end)

pub returns-in-None-clause-none : goal.returns-in-None-clause-none
unfolding stage_line
returns-in-None-clause-none c = λ a rest is e.
    let published = both_numbers (codes "published ") c.in_ok-published.published a.published c.in_ok-published.rest.now _ c.in_ok-published.ensures.fits (omega (arith, is.published)) (sym c.in_ok-published.ensures.some ∙ e) in
    let voted = both_numbers (codes " voted ") c.in_ok-voted.voted a.voted c.in_ok-voted.rest.now _ c.in_ok-voted.ensures.fits (omega (arith, is.voted)) (sym c.in_ok-voted.ensures.some ∙ published.1) in
    c.in-None.ensures.none a is (sym published.0) (sym voted.0)

pub returns-in-Some-clause-some : goal.returns-in-Some-clause-some
returns-in-Some-clause-some c =
    is_answered c.args.bytes.now c.in_ok-published.rest.now c.in_ok-voted.rest.now c.in_ok-rest.rest.now c.in_ok-published.published c.in_ok-voted.voted c.in-Some.answer
    c.in_ok-published.ensures.some c.in_ok-voted.ensures.some c.in_ok-rest.ensures c.in-Some.ensures.some.0 c.in-Some.ensures.some.1
