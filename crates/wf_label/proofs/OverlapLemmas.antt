-- Boxes overlap exactly where they share a pixel: the greater of their left sides with the greater
-- of their bottom sides is one.
use Rattle.std.proofs.Common.{◌≡◌, Bool, true, false, ℤ, refl, arith}
use Rattle.std.proofs.lemmas.Bool.{and_from, and_parts}
use Rattle.std.proofs.lemmas.Int.{ints}
use Rattle.wf_geometry.specs.Exact.{is_less}
use Rattle.wf_label.specs.Overlap.{BoxesOverlapWhereTheyShare, ShareAPixel}
use Rattle.wf_label.specs.PixelBox.{overlap, spans_overlap}
use Rattle.wf_label.specs.Taken.{IsSolid}
use Rattle.wf_label.specs.declared.placed.PixelBox.{PixelBox}

-- on one axis, a pixel of both spans
record IsCommon (a b c d : ℤ) : Type 0 where
  pixel : ℤ
  from_first : is_less pixel a ≡ true → ⊥
  before_first : is_less pixel b ≡ true
  from_second : is_less pixel c ≡ true → ⊥
  before_second : is_less pixel d ≡ true

common_pixel : (a b c d : ℤ) → is_less a b ≡ true → is_less c d ≡ true → spans_overlap a b c d ≡ true → IsCommon a b c d
unfolding spans_overlap is_less
common_pixel a b c d wide solid meets = by_test (is_less c a) refl where
  by_test : (t : Bool) → is_less c a ≡ t → IsCommon a b c d
  by_test true less = record { pixel = a; from_first = grind (arith, ints); before_first = wide; from_second = grind (arith, ints); before_second = grind (arith, ints) }
  by_test false from = record { pixel = c; from_first = grind (arith, ints); before_first = grind (arith, ints); from_second = grind (arith, ints); before_second = solid }

spans_meet : (a b c d x : ℤ) → (is_less x a ≡ true → ⊥) → is_less x b ≡ true → (is_less x c ≡ true → ⊥) → is_less x d ≡ true → spans_overlap a b c d ≡ true
unfolding spans_overlap is_less
spans_meet a b c d x from before from_other before_other = grind (arith, ints)

shared : (f g : PixelBox) → IsSolid f → IsSolid g → overlap f g ≡ true → ShareAPixel f g
unfolding overlap
shared f g solid also meets =
    let both = and_parts (spans_overlap f.left f.right g.left g.right) (spans_overlap f.bottom f.top g.bottom g.top) meets in
    let x = common_pixel f.left f.right g.left g.right solid.wide also.wide both.0 in
    let y = common_pixel f.bottom f.top g.bottom g.top solid.high also.high both.1 in
    record {
      column = x.pixel;
      row = y.pixel;
      in_first = record { from_left = x.from_first; before_right = x.before_first; from_bottom = y.from_first; before_top = y.before_first };
      in_second = record { from_left = x.from_second; before_right = x.before_second; from_bottom = y.from_second; before_top = y.before_second };
    }

overlapping : (f g : PixelBox) → ShareAPixel f g → overlap f g ≡ true
unfolding overlap
overlapping f g pixel =
    let a = pixel.in_first in
    let b = pixel.in_second in
    and_from _ _ (spans_meet f.left f.right g.left g.right pixel.column a.from_left a.before_right b.from_left b.before_right)
    (spans_meet f.bottom f.top g.bottom g.top pixel.row a.from_bottom a.before_top b.from_bottom b.before_top)

pub overlap_is_sharing : BoxesOverlapWhereTheyShare
overlap_is_sharing f g solid also = record { shares = shared f g solid also; overlaps = overlapping f g }
