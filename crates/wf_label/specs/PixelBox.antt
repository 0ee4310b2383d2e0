-- The boxes of labels, in pixels.
use Rattle.std.specs.Prelude.{ℕ, ◌*◌, ◌^◌, ◌≤◌, ◌&&◌, Bool, not, List, length, ℤ, pos, nat_abs}
use Rattle.std.specs.Str.{chars}
use Rattle.wf_geometry.specs.Exact.{plus, difference, is_less}
use Rattle.wf_geometry.specs.View.{ViewValue}
use Rattle.wf_label.specs.Limit.{cell_height, cell_width}
use Rattle.wf_label.specs.Placed.{PlacedValue}
use Rattle.wf_label.specs.declared.placed.PixelBox.{PixelBox}

-- how wide a text is: each character has a cell
unfoldable pub text_width : ℕ → List ℕ → ℕ
text_width scale text = cell_width * scale * length (chars text)

-- how high it is: as high as a cell
unfoldable pub text_height : ℕ → ℕ
text_height scale = cell_height * scale

-- the box of a label
unfoldable pub box_of : PlacedValue → PixelBox
box_of p = record {
  left = p.left;
  right = plus p.left (pos (text_width p.scale p.text));
  bottom = p.bottom;
  top = plus p.bottom (pos (text_height p.scale));
}

-- the box with `by` pixels more on each side
unfoldable pub widen : ℕ → PixelBox → PixelBox
widen by b = record {
  left = difference b.left (pos by);
  right = plus b.right (pos by);
  bottom = difference b.bottom (pos by);
  top = plus b.top (pos by);
}

-- on one axis, what goes from `a` to before `b` and what goes from `c` to before `d` have a pixel
-- in common
unfoldable pub spans_overlap : ℤ → ℤ → ℤ → ℤ → Bool
spans_overlap a b c d = is_less a d && is_less c b

-- the boxes have a pixel in common: on both axes each begins before the other ends
unfoldable pub overlap : PixelBox → PixelBox → Bool
overlap a b = spans_overlap a.left a.right b.left b.right && spans_overlap a.bottom a.top b.bottom b.top

-- the box lies whole in the view
unfoldable pub is_whole_in : ViewValue → PixelBox → Bool
is_whole_in view b = not (is_less b.left (pos 0)) && not (is_less (pos view.width) b.right)
    && not (is_less b.bottom (pos 0)) && not (is_less (pos view.height) b.top)

-- the box widened by the label's buffer has a pixel in common with the other's box
unfoldable pub meets : PlacedValue → PlacedValue → Bool
meets label other = overlap (widen label.buffer (box_of label)) (box_of other)

-- how far from 0 the sides of a box lie, so that no sum of them overflows
pub record IsPixelBox (b : PixelBox) : Type 0 where
  pub left : nat_abs b.left ≤ 2 ^ 100
  pub right : nat_abs b.right ≤ 2 ^ 100
  pub bottom : nat_abs b.bottom ≤ 2 ^ 100
  pub top : nat_abs b.top ≤ 2 ^ 100
