-- A segment has no direction: either end may come first.
use Rattle.std.specs.Prelude.{◌≡◌, ℕ}
use Rattle.wf_geometry.specs.Coverage.{crosses, is_on}
use Rattle.wf_geometry.specs.Position.{PositionValue}
use Rattle.wf_geometry.specs.declared.operation.Segment.{Segment}

-- the segment with its ends exchanged
abbrev pub reversed : Segment → Segment
reversed s = record { from = s.to; to = s.from }

-- a line along a segment covers the positions that a line along the reversed one covers
abbrev pub LinesHaveNoDirection : Type 0
LinesHaveNoDirection = (width : ℕ) (c : PositionValue) (s : Segment) → is_on width c (reversed s) ≡ is_on width c s

-- the ray from a position meets an edge iff it meets the reversed one
abbrev pub EdgesHaveNoDirection : Type 0
EdgesHaveNoDirection = (c : PositionValue) (s : Segment) → crosses c (reversed s) ≡ crosses c s
