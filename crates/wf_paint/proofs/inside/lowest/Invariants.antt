use Rattle.std.proofs.Common.{take, ◌≤ℤ◌}
use Rattle.std.specs.List.{All}
use Rattle.wf_paint.proofs.inside.lowest.Given as goal

abbrev pub invariant-loop-edge : goal.invariant-loop-edge
invariant-loop-edge l = All (λ edge. (l.lowest ≤ℤ edge.from.y) × (l.lowest ≤ℤ edge.to.y)) (take l.edge-index l.edges)
