use Rattle.std.proofs.Common.{◌≡◌, ◌++◌, List, drop}
use Rattle.wf_geometry.specs.Position.{PositionValue}
use Rattle.wf_geometry.specs.Segments.{path_from, positions}
use Rattle.wf_paint.proofs.segments.push_from.Given as goal

abbrev pub invariant-loop-point : goal.invariant-loop-point
invariant-loop-point l = (further : List PositionValue) → l.segments.items ++ path_from l.last (positions l.view (drop l.point-index l.points) ++ further) ≡ l.initial.segments.items ++ path_from l.fn.start (positions l.view l.points ++ further)
