-- Positions in a view, and the pixels' centres.
use Rattle.std.specs.Prelude.{ℤ, pos}
use Rattle.wf_geometry.specs.Near.{IsNear}
use Rattle.wf_geometry.specs.Exact.{plus, product}
use Rattle.wf_geometry.specs.Limit.{half_side, pixel_side}

-- sixteenths of a pixel from the left and from the bottom of a view
pub record PositionValue : Type 0 where
  pub x : ℤ
  pub y : ℤ

pub record IsPosition (p : PositionValue) : Type 0 where
  pub x : IsNear p.x
  pub y : IsNear p.y

-- the centre of a pixel, on one axis
abbrev pub middle : ℤ → ℤ
middle pixel = plus (product (pos pixel_side) pixel) (pos half_side)

-- the centre of the pixel in a column and a row; rows count from the bottom
abbrev pub centre : ℤ → ℤ → PositionValue
centre column row = record { x = middle column; y = middle row }

-- the position with its axes exchanged
abbrev pub turned : PositionValue → PositionValue
turned p = record { x = p.y; y = p.x }
