-- What drawing labels, from the last to the first, leaves of a picture.
use Rattle.std.proofs.Common.{◌≡◌, ℕ, ◌+◌, ◌-◌, ◌<◌, ◌≤◌, Bool, true, false, cond, List, [], ◌∷◌, drop, length, get_or, ℤ, pos, refl, sym, ap, ◌∙◌, arith}
use Rattle.std.proofs.lemmas.List.{drop_more}
use Rattle.wf_def.specs.declared.color.Color.{Color}
use Rattle.wf_paint.specs.Pixmap.{PixmapValue, pixel_at, column_of, row_of}
use Rattle.wf_label.specs.Colored.{IsPixmapColored}
use Rattle.wf_label.specs.Ink.{ink_of, inks, inked, IsInked}
use Rattle.wf_label.specs.Placed.{PlacedValue, placed_value, placed_values}
use Rattle.wf_label.specs.declared.placed.Placed.{Placed}

-- no label
pub IsInked-none : (p : PixmapValue) → IsInked [] p p
unfolding inked ink_of
IsInked-none p = record { width = refl; height = refl; pixels = λ i within. refl }

-- the first label shows where it inks, else those after it
pub inked-first : (label : PlacedValue) (labels : List PlacedValue) (below : Color) (column row : ℤ) →
    inked (label ∷ labels) below column row ≡ cond (inks label column row) label.color (inked labels below column row)
unfolding inked ink_of
inked-first label labels below column row = by_test (inks label column row) refl where
  by_test : (b : Bool) → inks label column row ≡ b → inked (label ∷ labels) below column row ≡ cond (inks label column row) label.color (inked labels below column row)
  by_test true here = rw here refl
  by_test false other = rw other refl

-- one label drawn over those after it
IsInked-more : (label : PlacedValue) (labels : List PlacedValue) (a b c : PixmapValue) → IsInked labels a b →
    IsPixmapColored (λ column row. inks label (pos column) (pos row)) label.color b c → IsInked (label ∷ labels) a c
IsInked-more label labels a b c before drawn = record {
  width = drawn.width ∙ before.width;
  height = drawn.height ∙ before.height;
  pixels = λ i within.
      let k = pos (column_of a.width i) in
      let m = pos (row_of a.width a.height i) in
      let here : pixel_at c.bytes i ≡ cond (inks label k m) label.color (pixel_at b.bytes i) = rw (before.width, before.height) at (drawn.pixels i (rw (before.width, before.height) within)) in
      here ∙ ap (λ (below : Color). cond (inks label k m) label.color below) (before.pixels i within) ∙ sym (inked-first label labels (pixel_at a.bytes i) k m);
}

-- the same by the code's labels, of which the one before this index is drawn
pub label_drawn : (labels : List Placed) (index : ℕ) (d : Placed) (a b c : PixmapValue) → 0 < index → index ≤ length labels → IsInked (placed_values (drop index labels)) a b →
    IsPixmapColored (λ column row. inks (placed_value (get_or labels (index - 1) d)) (pos column) (pos row)) (get_or labels (index - 1) d).color b c →
    IsInked (placed_values (drop (index - 1) labels)) a c
label_drawn labels index d a b c some within before drawn =
    let next : index - 1 + 1 ≡ index = omega arith in
    let here : drop (index - 1) labels ≡ get_or labels (index - 1) d ∷ drop index labels =
    drop_more labels (index - 1) d (omega arith) ∙ ap (λ (n : ℕ). get_or labels (index - 1) d ∷ drop n labels) next in
    rw here (IsInked-more (placed_value (get_or labels (index - 1) d)) (placed_values (drop index labels)) a b c before drawn)
