use Rattle.std.proofs.Common.{take}
use Rattle.wf_paint.specs.Edges.{AreAlong}
use Rattle.wf_paint.proofs.edges.unlike_neighbours.Given as goal

abbrev pub invariant-loop-segment : goal.invariant-loop-segment
invariant-loop-segment l = AreAlong (take l.segment-index l.segments) l.distinct.items
