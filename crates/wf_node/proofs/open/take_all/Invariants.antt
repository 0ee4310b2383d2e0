-- The records so far are applied, and the others remain.
use Rattle.std.proofs.Common.{◌≡◌}
use Rattle.wf_node.specs.DurablePart.{stored_of}
use Rattle.wf_node.proofs.Folded.{HasTaken}
use Rattle.wf_node.proofs.open.take_all.Given as goal

abbrev pub invariant-loop-entry : goal.invariant-loop-entry
invariant-loop-entry l = (HasTaken (stored_of l.persistent) l.index l.yielded l.entry-iterator.rest.items l.fn.records.items) × (l.persistent.id ≡ l.fn.persistent.id)
