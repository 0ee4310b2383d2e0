-- If the others have what is yet to come, they have all votes.
use Rattle.std.proofs.Common.{drop}
use Rattle.std.specs.FinMap.{from_entries}
use Rattle.wf_acceptor.specs.Comparison.{HasAllBut}
use Rattle.wf_acceptor.proofs.comparison.has_all.Given as goal

abbrev pub invariant-loop-slot : goal.invariant-loop-slot
invariant-loop-slot l =
    HasAllBut l.but (from_entries (drop l.slot-index l.slot-items)) l.others.by_slot → HasAllBut l.but (from_entries l.slot-items) l.others.by_slot
