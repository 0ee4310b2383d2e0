-- The number of the accusation is determined.
use Rattle.std.proofs.Common.{◌∙◌, sym, arith, codes}
use Rattle.wf_folder.proofs.WordLemmas.{after_number, both_numbers, if_none}
use Rattle.wf_peer.specs.GreetingReply.{rejection_byte}
use Rattle.wf_peer.specs.PeerProgressText.{accusation_then}
use Rattle.wf_peer.proofs.Lines.{is_accused}
use Rattle.wf_peer.proofs.Same.{byte_fits}
use Rattle.wf_peer.proofs.peer_progress_reader.split_accused.Goals as goal

pub returns-in_err-number-clause-none : goal.returns-in_err-number-clause-none
unfolding accusation_then
returns-in_err-number-clause-none c = if_none c.from_residual.result (λ why rest e. c.in_err-number.ensures.none (rejection_byte why) _ (omega (arith, byte_fits why)) e)

pub returns-in_err-rest-clause-none : goal.returns-in_err-rest-clause-none
unfolding accusation_then
returns-in_err-rest-clause-none c = if_none c.from_residual-in_err-rest.result (λ why rest e.
    c.in_err-rest.ensures rest (after_number (codes " accused ") c.in_ok-number.number (rejection_byte why) c.in_ok-number.rest.now _ (sym c.in_ok-number.ensures.some ∙ e)))

pub returns-in-None-clause-none : goal.returns-in-None-clause-none
unfolding accusation_then
returns-in-None-clause-none c = λ why rest e.
    let numbers = both_numbers (codes " accused ") c.in_ok-number.number (rejection_byte why) c.in_ok-number.rest.now _ c.in_ok-number.ensures.fits (omega (arith, byte_fits why)) (sym c.in_ok-number.ensures.some ∙ e) in
    c.in-None.ensures.none why numbers.0

pub returns-in-Some-clause-some : goal.returns-in-Some-clause-some
returns-in-Some-clause-some c = is_accused c.args.bytes.now c.in_ok-number.rest.now c.in_ok-rest.rest.now c.in_ok-number.number c.in-Some.why c.in_ok-number.ensures.some c.in_ok-rest.ensures c.in-Some.ensures.some
