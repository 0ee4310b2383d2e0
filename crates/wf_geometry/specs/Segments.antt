-- The segments of a feature's parts, in a view.
use Rattle.std.specs.Prelude.{List, [], ◌∷◌, ◌++◌, map}
use Rattle.std.specs.List.{flat_map}
use Rattle.wf_def.specs.declared.point.Point.{Point}
use Rattle.wf_geometry.specs.Position.{PositionValue}
use Rattle.wf_geometry.specs.View.{ViewValue, position_of}
use Rattle.wf_geometry.specs.declared.operation.Segment.{Segment}

abbrev pub path_from : PositionValue → List PositionValue → List Segment
path_from a [] = []
path_from a (b ∷ rest) = record { from = a; to = b } ∷ path_from b rest

-- from each position to the next
abbrev pub path : List PositionValue → List Segment
path [] = []
path (a ∷ rest) = path_from a rest

-- the same, and from the last position back to the first
abbrev pub ring : List PositionValue → List Segment
ring [] = []
ring (a ∷ rest) = path_from a (rest ++ a ∷ [])

abbrev pub positions : ViewValue → List Point → List PositionValue
positions view points = map (position_of view) points

unfoldable pub paths : ViewValue → List (List Point) → List Segment
paths view parts = flat_map (λ part. path (positions view part)) parts

unfoldable pub rings : ViewValue → List (List Point) → List Segment
rings view parts = flat_map (λ part. ring (positions view part)) parts
