-- What the overlap of two boxes means: a pixel that lies in both.
use Rattle.std.specs.Prelude.{◌≡◌, true, ℤ}
use Rattle.wf_geometry.specs.Exact.{is_less}
use Rattle.wf_label.specs.PixelBox.{overlap}
use Rattle.wf_label.specs.Taken.{IsSolid}
use Rattle.wf_label.specs.declared.placed.PixelBox.{PixelBox}

-- the pixel lies in the box: its left and bottom sides count, its right and top ones don't
pub record LiesIn (b : PixelBox) (column row : ℤ) : Type 0 where
  pub from_left : is_less column b.left ≡ true → ⊥
  pub before_right : is_less column b.right ≡ true
  pub from_bottom : is_less row b.bottom ≡ true → ⊥
  pub before_top : is_less row b.top ≡ true

-- a pixel lies in both boxes
pub record ShareAPixel (a b : PixelBox) : Type 0 where
  pub column : ℤ
  pub row : ℤ
  pub in_first : LiesIn a column row
  pub in_second : LiesIn b column row

-- boxes that have pixels overlap exactly where they share one
pub record OverlapIsSharing (a b : PixelBox) : Type 0 where
  pub shares : overlap a b ≡ true → ShareAPixel a b
  pub overlaps : ShareAPixel a b → overlap a b ≡ true

abbrev pub BoxesOverlapWhereTheyShare : Type 0
BoxesOverlapWhereTheyShare = (a b : PixelBox) → IsSolid a → IsSolid b → OverlapIsSharing a b
