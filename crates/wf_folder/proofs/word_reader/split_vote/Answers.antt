-- The parts of a vote are determined.
use Rattle.std.proofs.Common.{◌∙◌, sym, subst, arith, codes}
use Rattle.wf_ballot.specs.Sequence.{IsSlot}
use Rattle.wf_folder.specs.Words.{vote_then}
use Rattle.wf_folder.proofs.WordLemmas.{after_number, both_numbers, if_none, is_voted}
use Rattle.wf_folder.proofs.word_reader.split_vote.Goals as goal

pub returns-in_err-round-clause-none : goal.returns-in_err-round-clause-none
unfolding vote_then
returns-in_err-round-clause-none c = if_none c.from_residual.result (λ v rest is e. c.in_err-round.ensures.none v.ballot.round _ (omega (arith, is.of_ballot.to_last)) e)

pub returns-in_err-node-clause-none : goal.returns-in_err-node-clause-none
unfolding vote_then
returns-in_err-node-clause-none c = if_none c.from_residual-in_err-node.result (λ v rest is e.
    let of_node = after_number (codes " voted ") c.in_ok-round.round v.ballot.round c.in_ok-round.rest.now _ (sym c.in_ok-round.ensures.some ∙ e) in
    c.in_err-node.ensures.none v.ballot.node _ (omega (arith, is.of_ballot.by_node)) of_node)

pub returns-in_err-number-clause-none : goal.returns-in_err-number-clause-none
unfolding vote_then
returns-in_err-number-clause-none c = if_none c.from_residual-in_err-number.result (λ v rest is e.
    let of_node = after_number (codes " voted ") c.in_ok-round.round v.ballot.round c.in_ok-round.rest.now _ (sym c.in_ok-round.ensures.some ∙ e) in
    let at = after_number (codes " of ") c.in_ok-node.node v.ballot.node c.in_ok-node.rest.now _ (sym c.in_ok-node.ensures.some ∙ of_node) in
    c.in_err-number.ensures.none v.sequence rest (omega (arith, is.of_slot.to_last)) at)

pub returns-in_default-clause-none : goal.returns-in_default-clause-none
unfolding vote_then
returns-in_default-clause-none c = λ v rest is e.
    let rounds = both_numbers (codes " voted ") c.in_ok-round.round v.ballot.round c.in_ok-round.rest.now _ c.in_ok-round.ensures.fits (omega (arith, is.of_ballot.to_last)) (sym c.in_ok-round.ensures.some ∙ e) in
    let nodes = both_numbers (codes " of ") c.in_ok-node.node v.ballot.node c.in_ok-node.rest.now _ c.in_ok-node.ensures.fits (omega (arith, is.of_ballot.by_node)) (sym c.in_ok-node.ensures.some ∙ rounds.1) in
    c.in_default.ensures.none v.ballot is.of_ballot (sym rounds.0) (sym nodes.0)

pub returns-in-None-clause-none : goal.returns-in-None-clause-none
unfolding vote_then
returns-in-None-clause-none c = λ v rest is e.
    let rounds = both_numbers (codes " voted ") c.in_ok-round.round v.ballot.round c.in_ok-round.rest.now _ c.in_ok-round.ensures.fits (omega (arith, is.of_ballot.to_last)) (sym c.in_ok-round.ensures.some ∙ e) in
    let nodes = both_numbers (codes " of ") c.in_ok-node.node v.ballot.node c.in_ok-node.rest.now _ c.in_ok-node.ensures.fits (omega (arith, is.of_ballot.by_node)) (sym c.in_ok-node.ensures.some ∙ rounds.1) in
    let numbers = both_numbers (codes " at ") c.in_ok-number.number v.sequence c.in_ok-number.rest.now rest c.in_ok-number.ensures.fits (omega (arith, is.of_slot.to_last)) (sym c.in_ok-number.ensures.some ∙ nodes.1) in
    c.in-None.ensures.none (subst IsSlot (sym numbers.0) is.of_slot)

pub returns-in-Some-slot_of-clause-some : goal.returns-in-Some-slot_of-clause-some
returns-in-Some-slot_of-clause-some c =
    is_voted c.args.bytes.now c.in_ok-round.rest.now c.in_ok-node.rest.now c.in_ok-number.rest.now c.in_ok-round.round c.in_ok-node.node c.in_ok-number.number _
    c.in_ok-round.ensures.some c.in_ok-node.ensures.some c.in_ok-number.ensures.some c.in-Some.ensures.some.0 c.in-Some.ensures.some.1 c.in-Some-slot_of.ensures.some.0
