use Rattle.std.proofs.Common.{length}
use Rattle.wf_paint.proofs.MarksLemmas.{AreMarked}
use Rattle.wf_paint.proofs.inside.mark_odd.Given as goal

abbrev pub invariant-loop-reach : goal.invariant-loop-reach
invariant-loop-reach l = AreMarked l.reaches.items l.reach-index (length l.initial.odd.items) l.odd.items
