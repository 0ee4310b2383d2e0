-- How a view maps the map's coordinates to pixels: linearly on each axis, rounded down.
use Rattle.std.specs.Prelude.{ℕ, ◌*◌, ◌^◌, ◌≤◌, ℤ, pos, nat_abs, Option}
use Rattle.wf_def.specs.Limit.{most_millionths}
use Rattle.wf_def.specs.Number.{IsMicro}
use Rattle.wf_def.specs.declared.point.Point.{Point}
use Rattle.wf_geometry.specs.Exact.{difference, product, quotient}
use Rattle.wf_geometry.specs.Limit.{most_pixels}
use Rattle.wf_geometry.specs.Position.{PositionValue}
use Rattle.wf_geometry.specs.declared.view.Corner.{Corner}

-- `span` millionths are `scale` sixteenths of a pixel; the coordinate `origin` lies `shift`
-- sixteenths before the view's side
pub record AxisValue : Type 0 where
  pub origin : ℤ
  pub scale : ℕ
  pub span : ℕ
  pub shift : ℤ

-- a distance in millionths as sixteenths of a pixel, rounded down
unfoldable pub scaled : ℤ → ℕ → ℕ → ℤ
scaled distance scale span = quotient (product distance (pos scale)) (pos span)

-- the position of a coordinate, in sixteenths of a pixel from the view's side
unfoldable pub position : AxisValue → ℤ → ℤ
position axis x = difference (scaled (difference x axis.origin) axis.scale axis.span) axis.shift

-- a size in pixels, the two axes, and for a tile its lower left pixel: the picture is then the part
-- of the view that starts there
pub record ViewValue : Type 0 where
  pub width : ℕ
  pub height : ℕ
  pub x : AxisValue
  pub y : AxisValue
  pub corner : Option Corner

-- the position of a point
abbrev pub position_of : ViewValue → Point → PositionValue
position_of view p = record { x = position view.x p.x; y = position view.y p.y }

-- the most sixteenths of a pixel that a millionth takes
abbrev pub most_scale : ℕ
most_scale = 17

-- the greatest distance of the origin from the view's side, in sixteenths of a pixel
abbrev pub most_shift : ℕ
most_shift = 2 ^ 51

-- the axis gives every coordinate a position
pub record IsAxis (a : AxisValue) : Type 0 where
  pub origin : IsMicro a.origin
  pub least : 1 ≤ a.span
  pub most : a.span ≤ 2 * most_millionths
  pub finest : a.scale ≤ most_scale * a.span
  pub shift : nat_abs a.shift ≤ most_shift

pub record IsView (v : ViewValue) : Type 0 where
  pub width_least : 1 ≤ v.width
  pub width_most : v.width ≤ most_pixels
  pub height_least : 1 ≤ v.height
  pub height_most : v.height ≤ most_pixels
  pub x : IsAxis v.x
  pub y : IsAxis v.y
