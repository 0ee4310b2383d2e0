-- The next slot, or the last one.
use Rattle.std.proofs.Common.{◌<◌, ◌+◌, length, refl, sym, ap, subst, ◌∙◌}
use Rattle.std.proofs.lemmas.Bool.{false≢true}
use Rattle.wf_ballot.specs.Sequence.{last_sequence}
use Rattle.wf_node.specs.DurablePart.{stored_of}
use Rattle.wf_node.proofs.Pushed.{promised_next, promised_last}
use Rattle.wf_node.proofs.compaction.promised_slot.Goals as goal

pub returns-in-Some : goal.returns-in-Some
returns-in-Some c =
    promised_next (stored_of c.args.persistent.now) c.in-Some.slot (subst (λ h. length h < last_sequence) c.history.ensures (c.in-Some.ensures.open.0 refl))
    (c.in-Some.ensures.value ∙ ap (λ h. length h + 1) c.history.ensures)

pub returns-in-None : goal.returns-in-None
returns-in-None c =
    c.slot_of.ensures ∙ promised_last (stored_of c.args.persistent.now)
    (λ more. false≢true (c.in-None.ensures.open.1 (subst (λ h. length h < last_sequence) (sym c.history.ensures) more)))
