use Rattle.std.proofs.Common.{take}
use Rattle.wf_paint.specs.Edges.{AreAround}
use Rattle.wf_paint.proofs.edges.odd_neighbours.Given as goal

abbrev pub invariant-loop-segment : goal.invariant-loop-segment
invariant-loop-segment l = AreAround (take l.segment-index l.segments) l.odd.items
