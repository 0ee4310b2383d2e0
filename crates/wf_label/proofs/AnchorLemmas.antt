-- The box around points, one point after another.
use Rattle.std.proofs.Common.{◌≡◌, ℕ, ◌+◌, ◌<◌, List, map, take, length, get_or, ℤ, sym, ap, ◌∙◌}
use Rattle.std.proofs.lemmas.List.{map_more}
use Rattle.std.proofs.lemmas.List.Sums.{fold_push}
use Rattle.std.specs.Int.{int_min, int_max}
use Rattle.std.specs.List.{fold}
use Rattle.wf_def.specs.declared.point.Point.{Point}
use Rattle.wf_geometry.specs.Position.{PositionValue}
use Rattle.wf_geometry.specs.View.{ViewValue, position_of}
use Rattle.wf_label.specs.Anchor.{bounds_of, shown_x, shown_y}
use Rattle.wf_label.specs.declared.feature_anchor.Bounds.{Bounds}

fold_more : (pick : ℤ → ℤ → ℤ) (shown : Point → ℤ) (first : ℤ) (points : List Point) (i : ℕ) (d : Point) → i < length points →
    pick (fold pick first (map shown (take i points))) (shown (get_or points i d)) ≡ fold pick first (map shown (take (i + 1) points))
fold_more pick shown first points i d within =
    sym (fold_push pick first (map shown (take i points)) (shown (get_or points i d))) ∙ ap (fold pick first) (sym (map_more shown points i d within))

-- a side of the box so far and of the next point is that of one point more
side_more : (pick : ℤ → ℤ → ℤ) (shown : Point → ℤ) (first : ℤ) (points : List Point) (i : ℕ) (x d : Point) (before after : ℤ) → i < length points → x ≡ get_or points i d →
    before ≡ fold pick first (map shown (take i points)) → after ≡ pick before (shown x) → after ≡ fold pick first (map shown (take (i + 1) points))
side_more pick shown first points i x d before after within here so_far is =
    is ∙ ap (λ (side : ℤ). pick side (shown x)) so_far
    ∙ ap (λ (p : Point). pick (fold pick first (map shown (take i points))) (shown p)) here
    ∙ fold_more pick shown first points i d within

-- the next box, where each of its sides is that of the box so far or of the next point
pub record IsWidened (before after : Bounds) (p : PositionValue) : Type 0 where
  pub left : after.left ≡ int_min before.left p.x
  pub right : after.right ≡ int_max before.right p.x
  pub bottom : after.bottom ≡ int_min before.bottom p.y
  pub top : after.top ≡ int_max before.top p.y

-- the box around the first points, widened by the next one
pub bounds_more : (view : ViewValue) (first : Point) (points : List Point) (i : ℕ) (x d : Point) (before after : Bounds) → i < length points → x ≡ get_or points i d →
    before ≡ bounds_of view first (take i points) → IsWidened before after (position_of view x) → after ≡ bounds_of view first (take (i + 1) points)
bounds_more view first points i x d before after within here so_far is j = record {
  left = side_more int_min (shown_x view) (shown_x view first) points i x d before.left after.left within here (ap (λ (b : Bounds). b.left) so_far) is.left j;
  right = side_more int_max (shown_x view) (shown_x view first) points i x d before.right after.right within here (ap (λ (b : Bounds). b.right) so_far) is.right j;
  bottom = side_more int_min (shown_y view) (shown_y view first) points i x d before.bottom after.bottom within here (ap (λ (b : Bounds). b.bottom) so_far) is.bottom j;
  top = side_more int_max (shown_y view) (shown_y view first) points i x d before.top after.top within here (ap (λ (b : Bounds). b.top) so_far) is.top j;
}
