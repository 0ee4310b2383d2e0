use Rattle.std.proofs.Common.{take}
use Rattle.std.specs.List.{flat_map}
use Rattle.wf_geometry.specs.Segments.{path, positions}
use Rattle.std.proofs.Common.{◌≡◌}
use Rattle.wf_paint.proofs.segments.paths.Given as goal

abbrev pub invariant-loop-part : goal.invariant-loop-part
invariant-loop-part l = l.segments.items ≡ flat_map (λ part. path (positions l.view part)) (take l.part-index l.parts)
