-- Whole pictures: their pixels are those of their files, and a part that is as large as the view is
-- all of it.
use Rattle.std.proofs.Common.{◌≡◌, ℕ, zero, suc, ◌+◌, ◌-◌, ◌*◌, ◌<◌, ◌≤◌, List, [], ◌++◌, take, drop, length, reverse, ℤ, pos, refl, sym, ap, ◌∙◌, arith}
use Rattle.std.proofs.lemmas.Int.{ints}
use Rattle.std.specs.List.{flat_map, range_with_len}
use Rattle.std.proofs.Math.Nat.{mul_comm}
use Rattle.std.proofs.Math.Seq.{take-add}
use Rattle.std.proofs.lemmas.List.{take_all}
use Rattle.wf_def.specs.Definition.{Definition}
use Rattle.wf_def.specs.declared.color.Color.{Color}
use Rattle.wf_geometry.specs.Exact.{plus}
use Rattle.wf_paint.specs.Pixmap.{PixmapValue, IsPixmap, IsPicture}
use Rattle.wf_geometry.specs.View.{ViewValue}
use Rattle.wf_geometry.specs.declared.view.Corner.{Corner}
use Rattle.wf_picture.specs.Image.{header, image, pixel_bytes, row_bytes}
use Rattle.wf_picture.specs.Picture.{corner_of, crop, labelled, picture, IsImageOf, IsViewFor, IsPartOfView}
use Rattle.wf_picture.specs.Request.{RequestValue}
use Rattle.wf_picture.proofs.ImageLemmas.{row_shown, row_more}

-- ---- a part that begins at the lower left pixel

unmoved : (x : ℤ) (n : ℕ) → n ≡ 0 → plus x (pos n) ≡ x
unfolding plus
unmoved x n none = omega (arith, ints)

pub crop_none : (corner : Corner) (whole : ℤ → ℤ → Color) → corner.column ≡ 0 → corner.row ≡ 0 → crop corner whole ≡ whole
unfolding crop
crop_none corner whole left bottom i column row = whole (unmoved column corner.column left i) (unmoved row corner.row bottom i)

-- ---- the bytes of a whole picture

abbrev pub origin : Corner
origin = record { column = 0; row = 0 }

module _ (p : PixmapValue) (whole : ℤ → ℤ → Color) (is : IsPixmap p) (shows : IsPicture p.width p.height whole p) where
  -- a row's bytes, counted from the top
  row_from_top : (k : ℕ) → k < p.height → take (3 * p.width) (drop (3 * (k * p.width)) p.bytes) ≡ row_bytes p.width whole (p.height - 1 - k)
  row_from_top k within =
      let row : ℕ = p.height - 1 - k in
      let above : p.height - 1 - (0 + row) ≡ k = omega arith in
      let first : (p.height - 1 - (0 + row)) * p.width + 0 ≡ k * p.width = ap (λ (n : ℕ). n * p.width + 0) above ∙ omega arith in
      ap (λ (n : ℕ). take (3 * p.width) (drop (3 * n) p.bytes)) (sym first)
      ∙ row_shown p origin p.width row (omega arith) (omega arith) whole shows is
      ∙ ap (λ (picture : ℤ → ℤ → Color). row_bytes p.width picture row) (crop_none origin whole refl refl)

  rows_from_top : (k : ℕ) → k ≤ p.height → take (3 * (k * p.width)) p.bytes ≡ flat_map (row_bytes p.width whole) (reverse (range_with_len (p.height - k) k))
  rows_from_top zero within =
      let none : 3 * (0 * p.width) ≡ 0 = omega arith in
      rw none refl
  rows_from_top (suc k) within =
      let longer : 3 * (suc k * p.width) ≡ 3 * (k * p.width) + 3 * p.width = grind arith in
      let next : p.height - suc k + 1 ≡ p.height - k = omega arith in
      let row : p.height - 1 - k ≡ p.height - suc k = omega arith in
      ap (λ (n : ℕ). take n p.bytes) longer
      ∙ take-add (3 * (k * p.width)) (3 * p.width) p.bytes
      ∙ ap (λ (bytes : List ℕ). bytes ++ take (3 * p.width) (drop (3 * (k * p.width)) p.bytes)) (rows_from_top k (omega arith))
      ∙ ap (λ (bytes : List ℕ). flat_map (row_bytes p.width whole) (reverse (range_with_len (p.height - k) k)) ++ bytes)
      (row_from_top k (omega arith) ∙ ap (row_bytes p.width whole) row)
      ∙ ap (λ (n : ℕ). flat_map (row_bytes p.width whole) (reverse (range_with_len n k)) ++ row_bytes p.width whole (p.height - suc k)) (sym next)
      ∙ sym (row_more (row_bytes p.width whole) (p.height - suc k) k)

  pub whole_shown : p.bytes ≡ pixel_bytes p.width p.height whole
  unfolding pixel_bytes
  whole_shown =
      let none : p.height - p.height ≡ 0 = omega arith in
      let sized : length p.bytes ≤ 3 * (p.height * p.width) = omega (arith, is.size, mul_comm p.width p.height) in
      sym (take_all (3 * (p.height * p.width)) p.bytes sized)
      ∙ rows_from_top p.height (omega arith)
      ∙ ap (λ (n : ℕ). flat_map (row_bytes p.width whole) (reverse (range_with_len n p.height))) none

-- the header, and after it the picture's bytes, are its file
pub file_written : (p : PixmapValue) (whole : ℤ → ℤ → Color) (old head file : List ℕ) (width height : ℕ) → IsPixmap p → IsPicture p.width p.height whole p →
    old ≡ [] → head ≡ old ++ header width height → width ≡ p.width → height ≡ p.height → file ≡ head ++ p.bytes → file ≡ image p.width p.height whole
unfolding image
file_written p whole old head file width height is shows none headed wide high joined =
    joined
    ∙ ap (λ (front : List ℕ). front ++ p.bytes) (headed ∙ ap (λ (before : List ℕ). before ++ header width height) none)
    ∙ ap (λ (w : ℕ). header w height ++ p.bytes) wide ∙ ap (λ (h : ℕ). header p.width h ++ p.bytes) high
    ∙ ap (λ (bytes : List ℕ). header p.width p.height ++ bytes) (whole_shown p whole is shows)

-- ---- a request for all of its view

pub whole_drawn : (map : Definition) (request : RequestValue) (view : ViewValue) (bytes : List ℕ) → IsViewFor map.extent request view → IsPartOfView request.size view →
    view.width ≡ request.size.width → view.height ≡ request.size.height →
    bytes ≡ image view.width view.height (labelled map request.layers view request.background) → IsImageOf map request bytes
unfolding picture
whole_drawn map request view bytes is lies wide high drawn =
    let whole = labelled map request.layers view request.background in
    let left : (corner_of view).column ≡ 0 = omega (arith, lies.columns) in
    let bottom : (corner_of view).row ≡ 0 = omega (arith, lies.rows) in
    record {
      view = view;
      is = is;
      file = drawn
          ∙ ap (λ (w : ℕ). image w view.height whole) wide ∙ ap (λ (h : ℕ). image request.size.width h whole) high
          ∙ ap (image request.size.width request.size.height) (sym (crop_none (corner_of view) whole left bottom));
    }
