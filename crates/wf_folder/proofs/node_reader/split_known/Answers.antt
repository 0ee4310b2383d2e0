-- The parts of the line are determined, one after the other.
use Rattle.std.proofs.Common.{◌∙◌, sym, codes}
use Rattle.std.proofs.lemmas.List.{append_cancel_left}
use Rattle.wf_folder.specs.NodeFile.{known_then}
use Rattle.wf_folder.proofs.Ends.{is_known_line}
use Rattle.wf_folder.proofs.WordLemmas.{both_reaches, if_none}
use Rattle.wf_folder.proofs.node_reader.split_known.Goals as goal

pub returns-in_err-rest-clause-none : goal.returns-in_err-rest-clause-none
unfolding known_then
returns-in_err-rest-clause-none c = if_none c.from_residual.result (λ k rest is e. c.in_err-rest.ensures _ e)

pub returns-in_default-clause-none : goal.returns-in_default-clause-none
unfolding known_then
returns-in_default-clause-none c = λ k rest is e.
    c.in_default.ensures.none k.reach _ is.of_reach (append_cancel_left (codes "\nknown") _ _ (sym c.in_ok-rest.ensures ∙ e))

pub returns-in_err-rest-2-clause-none : goal.returns-in_err-rest-2-clause-none
unfolding known_then
returns-in_err-rest-2-clause-none c = if_none c.from_residual-in_err-rest-2.result (λ k rest is e.
    let digest = both_reaches c.in-Some.reach k.reach c.in-Some.rest.now _ c.in-Some.ensures.known is.of_reach (sym c.in-Some.ensures.some ∙ append_cancel_left (codes "\nknown") _ _ (sym c.in_ok-rest.ensures ∙ e)) in
    c.in_err-rest-2.ensures _ digest.1)

pub returns-in_err-digest-clause-none : goal.returns-in_err-digest-clause-none
unfolding known_then
returns-in_err-digest-clause-none c = if_none c.from_residual-in_err-digest.result (λ k rest is e.
    let digest = both_reaches c.in-Some.reach k.reach c.in-Some.rest.now _ c.in-Some.ensures.known is.of_reach (sym c.in-Some.ensures.some ∙ append_cancel_left (codes "\nknown") _ _ (sym c.in_ok-rest.ensures ∙ e)) in
    c.in_err-digest.ensures.none k.digest rest is.bytes is.size (append_cancel_left (codes " digest ") _ _ (sym c.in_ok-rest-2.ensures ∙ digest.1)))

pub returns-clause-some : goal.returns-clause-some
returns-clause-some c =
    is_known_line c.args.bytes.now c.in_ok-rest.rest.now c.in-Some.rest.now c.in_ok-rest-2.rest.now c.in_ok-digest.rest.now _ c.in_ok-rest.ensures c.in-Some.ensures.some c.in_ok-rest-2.ensures c.in_ok-digest.ensures.some
