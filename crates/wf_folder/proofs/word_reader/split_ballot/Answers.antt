-- The parts of a promise are determined.
use Rattle.std.proofs.Common.{◌∙◌, sym, arith, codes}
use Rattle.wf_folder.specs.Words.{promise_then}
use Rattle.wf_folder.proofs.WordLemmas.{if_none, is_promised}
use Rattle.wf_folder.proofs.WordLemmas.{after_number, both_numbers}
use Rattle.wf_folder.proofs.word_reader.split_ballot.Goals as goal

pub returns-in_err-round-clause-none : goal.returns-in_err-round-clause-none
unfolding promise_then
returns-in_err-round-clause-none c = if_none c.from_residual.result (λ b rest is e. c.in_err-round.ensures.none b.round _ (omega (arith, is.to_last)) e)

pub returns-in_err-node-clause-none : goal.returns-in_err-node-clause-none
unfolding promise_then
returns-in_err-node-clause-none c = if_none c.from_residual-in_err-node.result (λ b rest is e.
    let of_node = after_number (codes " promised ") c.in_ok-round.round b.round c.in_ok-round.rest.now _ (sym c.in_ok-round.ensures.some ∙ e) in
    c.in_err-node.ensures.none b.node rest (omega (arith, is.by_node)) of_node)

pub returns-in-None-clause-none : goal.returns-in-None-clause-none
unfolding promise_then
returns-in-None-clause-none c = λ b rest is e.
    let rounds = both_numbers (codes " promised ") c.in_ok-round.round b.round c.in_ok-round.rest.now _ c.in_ok-round.ensures.fits (omega (arith, is.to_last)) (sym c.in_ok-round.ensures.some ∙ e) in
    let nodes = both_numbers (codes " of ") c.in_ok-node.node b.node c.in_ok-node.rest.now rest c.in_ok-node.ensures.fits (omega (arith, is.by_node)) (sym c.in_ok-node.ensures.some ∙ rounds.1) in
    c.in-None.ensures.none b is (sym rounds.0) (sym nodes.0)

pub returns-in-Some-clause-some : goal.returns-in-Some-clause-some
returns-in-Some-clause-some c = is_promised c.args.bytes.now c.in_ok-round.rest.now c.in_ok-node.rest.now c.in_ok-round.round c.in_ok-node.node c.in-Some.ballot c.in_ok-round.ensures.some c.in_ok-node.ensures.some c.in-Some.ensures.some.0 c.in-Some.ensures.some.1
