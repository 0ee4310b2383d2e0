use Rattle.std.proofs.Common.{take, ◌≤ℤ◌}
use Rattle.std.specs.List.{All}
use Rattle.wf_paint.proofs.inside.highest.Given as goal

abbrev pub invariant-loop-edge : goal.invariant-loop-edge
invariant-loop-edge l = All (λ edge. (edge.from.y ≤ℤ l.highest) × (edge.to.y ≤ℤ l.highest)) (take l.edge-index l.edges)
