-- Segments that lines are drawn along and insides are bounded by.
use Rattle.std.specs.Prelude.{◌≡◌, ◌%◌, ℕ, List, Option, Some, None, Vec}
use Rattle.std.specs.List.{count_by}
use Rattle.wf_geometry.specs.Position.{PositionValue}
use Rattle.wf_geometry.specs.Coverage.{crosses, is_on_any}
use Rattle.wf_geometry.specs.declared.operation.Segment.{Segment}

-- lines along these cover what lines along all of them cover
unfoldable pub AreAlong : List Segment → List Segment → Type 0
AreAlong all some = (width : ℕ) (c : PositionValue) → is_on_any width c some ≡ is_on_any width c all

-- the ray from a position meets an odd number of these iff it meets an odd number of all of them
unfoldable pub AreAround : List Segment → List Segment → Type 0
AreAround all some = (c : PositionValue) → count_by (crosses c) some % 2 ≡ count_by (crosses c) all % 2

-- these, if they are kept, else all
abbrev pub drawn_of : {A : Type 0} → List Segment → Option (Vec Segment A) → List Segment
drawn_of all None = all
drawn_of all (Some some) = some.items
