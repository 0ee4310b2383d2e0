use Rattle.std.proofs.Common.{List}
use Rattle.wf_readers_port.specs.Exchanges.{Exchange}
use Rattle.wf_readers_port.specs.Readers.{AreReplied}
use Rattle.wf_readers_port.proofs.slots.free_slots.Given as goal

abbrev pub invariant-loop : goal.invariant-loop
invariant-loop g l = (all : List Exchange) → AreReplied g.C.Connection all l.slots.items
