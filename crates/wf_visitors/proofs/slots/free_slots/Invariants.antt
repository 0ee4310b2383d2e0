use Rattle.std.proofs.Common.{[]}
use Rattle.wf_visitors.specs.Said.{AreSaid}
use Rattle.wf_visitors.proofs.slots.free_slots.Given as goal

abbrev pub invariant-loop : goal.invariant-loop
invariant-loop l = AreSaid [] l.slots.items
