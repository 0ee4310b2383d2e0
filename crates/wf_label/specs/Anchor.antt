-- Where a feature's label is anchored.
use Rattle.std.specs.Prelude.{List, [], ◌∷◌, map, Option, Some, None, ℤ, pos}
use Rattle.std.specs.Int.{int_min, int_max}
use Rattle.std.specs.List.{fold}
use Rattle.wf_def.specs.declared.point.Point.{Point}
use Rattle.wf_geometry.specs.Exact.{plus, quotient}
use Rattle.wf_geometry.specs.Limit.{pixel_side}
use Rattle.wf_geometry.specs.Near.{IsNear}
use Rattle.wf_geometry.specs.View.{ViewValue, position_of}
use Rattle.wf_label.specs.declared.feature_anchor.Anchor.{Anchor}
use Rattle.wf_label.specs.declared.feature_anchor.Bounds.{Bounds}

-- ---- the box around points

-- the least and the greatest of some numbers, of which there is a first
abbrev pub least : ℤ → List ℤ → ℤ
least first rest = fold int_min first rest

abbrev pub greatest : ℤ → List ℤ → ℤ
greatest first rest = fold int_max first rest

-- where a point is shown on each axis, in sixteenths of a pixel
abbrev pub shown_x : ViewValue → Point → ℤ
shown_x view p = (position_of view p).x

abbrev pub shown_y : ViewValue → Point → ℤ
shown_y view p = (position_of view p).y

-- from the least to the greatest of what is shown on each axis
abbrev pub bounds_of : ViewValue → Point → List Point → Bounds
bounds_of view p rest = record {
  left = least (shown_x view p) (map (shown_x view) rest);
  right = greatest (shown_x view p) (map (shown_x view) rest);
  bottom = least (shown_y view p) (map (shown_y view) rest);
  top = greatest (shown_y view p) (map (shown_y view) rest);
}

-- ---- its middle

-- halfway between two positions on an axis, rounded down
unfoldable pub middle : ℤ → ℤ → ℤ
middle low high = quotient (plus low high) (pos 2)

-- the pixel that holds a position on an axis
unfoldable pub pixel_of : ℤ → ℤ
pixel_of position = quotient position (pos pixel_side)

-- the pixel in the middle of a box
abbrev pub middle_of : Bounds → Anchor
middle_of b = record { column = pixel_of (middle b.left b.right); row = pixel_of (middle b.bottom b.top) }

-- ---- the anchor

-- the pixel in the middle of the box around a part's points; there is none without a point
abbrev pub part_anchor : ViewValue → List Point → Option Anchor
part_anchor view [] = None
part_anchor view (p ∷ rest) = Some (middle_of (bounds_of view p rest))

-- that of the first part
abbrev pub anchor_of : ViewValue → List (List Point) → Option Anchor
anchor_of view [] = None
anchor_of view (part ∷ parts) = part_anchor view part

-- ---- limits

-- positions of a view
pub record IsBounds (b : Bounds) : Type 0 where
  pub left : IsNear b.left
  pub right : IsNear b.right
  pub bottom : IsNear b.bottom
  pub top : IsNear b.top

-- near enough that the box of a text beside it fits
pub record IsAnchor (a : Anchor) : Type 0 where
  pub column : IsNear a.column
  pub row : IsNear a.row
