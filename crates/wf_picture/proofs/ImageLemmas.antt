-- The bytes of a picture's part, row by row.
use Rattle.std.proofs.Common.{◌≡◌, ℕ, zero, suc, ◌+◌, ◌-◌, ◌*◌, ◌/◌, ◌<◌, ◌≤◌, List, [], ◌∷◌, ◌++◌, take, drop, length, get_or, reverse, ℤ, pos, refl, sym, ap, ◌∙◌, mul-le-mul_right, arith}
use Rattle.std.specs.List.{flat_map, range_with_len}
use Rattle.std.proofs.lemmas.Grind.{flat_map-append}
use Rattle.std.proofs.lemmas.List.{append-nil, append_assoc, drop_more, reverse-append}
use Rattle.std.proofs.lemmas.Nat.{div-mul-add, mod-mul-add}
use Rattle.wf_def.specs.declared.color.Color.{Color}
use Rattle.wf_geometry.specs.Exact.{plus}
use Rattle.wf_paint.specs.Pixmap.{PixmapValue, IsPixmap, IsPicture, pixel_at, column_of, row_of}
use Rattle.wf_geometry.specs.declared.view.Corner.{Corner}
use Rattle.wf_picture.specs.Image.{color_bytes, row_bytes}
use Rattle.wf_picture.specs.Picture.{crop}

-- ---- pixels

-- the bytes from a pixel on are its three, and those after it
three_more : (bytes : List ℕ) (index : ℕ) → 3 * index + 3 ≤ length bytes → drop (3 * index) bytes ≡ color_bytes (pixel_at bytes index) ++ drop (3 * (index + 1)) bytes
unfolding pixel_at
three_more bytes index within =
    let next : 3 * index + 1 + 1 + 1 ≡ 3 * (index + 1) = omega arith in
    let second : 3 * index + 1 + 1 ≡ 3 * index + 2 = omega arith in
    drop_more bytes (3 * index) 0 (omega arith)
    ∙ ap (λ (rest : List ℕ). get_or bytes (3 * index) 0 ∷ rest) (drop_more bytes (3 * index + 1) 0 (omega arith))
    ∙ ap (λ (rest : List ℕ). get_or bytes (3 * index) 0 ∷ get_or bytes (3 * index + 1) 0 ∷ rest) (drop_more bytes (3 * index + 1 + 1) 0 (omega arith))
    ∙ ap (λ (i : ℕ). get_or bytes (3 * index) 0 ∷ get_or bytes (3 * index + 1) 0 ∷ get_or bytes i 0 ∷ drop (3 * index + 1 + 1 + 1) bytes) second
    ∙ ap (λ (i : ℕ). get_or bytes (3 * index) 0 ∷ get_or bytes (3 * index + 1) 0 ∷ get_or bytes (3 * index + 2) 0 ∷ drop i bytes) next

take_three : (count : ℕ) (color : Color) (rest : List ℕ) → take (3 * suc count) (color_bytes color ++ rest) ≡ color_bytes color ++ take (3 * count) rest
take_three count color rest =
    let more : 3 * suc count ≡ suc (suc (suc (3 * count))) = omega arith in
    ap (λ (n : ℕ). take n (color_bytes color ++ rest)) more

-- where `count` pixels have the colours that the function gives for them, the bytes are those
-- colours
pub colors_shown : (bytes : List ℕ) (color : ℕ → Color) (first k count : ℕ) → 3 * (first + k + count) ≤ length bytes →
    ((j : ℕ) → j < k + count → pixel_at bytes (first + j) ≡ color j) →
    take (3 * count) (drop (3 * (first + k)) bytes) ≡ flat_map (λ j. color_bytes (color j)) (range_with_len k count)
colors_shown bytes color first k zero long each = refl
colors_shown bytes color first k (suc count) long each =
    let next : first + k + 1 ≡ first + (k + 1) = omega arith in
    ap (take (3 * suc count)) (three_more bytes (first + k) (omega arith))
    ∙ take_three count (pixel_at bytes (first + k)) (drop (3 * (first + k + 1)) bytes)
    ∙ ap (λ (c : Color). color_bytes c ++ take (3 * count) (drop (3 * (first + k + 1)) bytes)) (each k (omega arith))
    ∙ ap (λ (i : ℕ). color_bytes (color k) ++ take (3 * count) (drop (3 * i) bytes)) next
    ∙ ap (λ (rest : List ℕ). color_bytes (color k) ++ rest) (colors_shown bytes color first (k + 1) count (omega arith) (λ j within. each j (omega arith)))

-- ---- a row

-- pixels of a row below the first ones lie within the picture
pub row_within : (width height above pixels : ℕ) → pixels ≤ width → above < height → above * width + pixels ≤ width * height
row_within width height above pixels across down =
    let rows : suc above * width ≤ height * width = mul-le-mul_right width down in
    grind arith

module _ (p : PixmapValue) (corner : Corner) (width row : ℕ) (across : corner.column + width ≤ p.width) (down : corner.row + row < p.height) where
  -- the rows above this one
  abbrev above : ℕ
  above = p.height - 1 - (corner.row + row)

  -- the index of the row's first pixel
  abbrev first : ℕ
  first = above * p.width + corner.column

  pub inside : (j : ℕ) → j ≤ width → first + j ≤ p.width * p.height
  inside j within =
      let row_inside : above * p.width + (corner.column + j) ≤ p.width * p.height = row_within p.width p.height above (corner.column + j) (omega arith) (omega arith) in
      omega (arith, row_inside)

  index_before : (j : ℕ) → j < width → first + j < p.width * p.height
  index_before j within = omega (arith, inside (j + 1) (omega arith))

  columns : (j : ℕ) → j < width → column_of p.width (first + j) ≡ j + corner.column
  unfolding column_of
  columns j within =
      let parts : first + j ≡ above * p.width + (corner.column + j) = omega arith in
      rw parts (mod-mul-add above p.width (corner.column + j) (omega arith) ∙ omega arith)

  rows : (j : ℕ) → j < width → row_of p.width p.height (first + j) ≡ row + corner.row
  unfolding row_of
  rows j within =
      let parts : first + j ≡ above * p.width + (corner.column + j) = omega arith in
      let past : (above * p.width + (corner.column + j)) / p.width ≡ above = div-mul-add above p.width (corner.column + j) (omega arith) in
      rw (parts, past) (omega arith)

  module _ (whole : ℤ → ℤ → Color) (shows : IsPicture p.width p.height whole p) (is : IsPixmap p) where
    -- each of the row's pixels has the colour that the part of the picture has there
    pixels : (j : ℕ) → j < width → pixel_at p.bytes (first + j) ≡ crop corner whole (pos j) (pos row)
    unfolding crop plus
    pixels j within =
        shows.pixels (first + j) (index_before j within)
        ∙ ap (λ (column : ℕ). whole (pos column) (pos (row_of p.width p.height (first + j)))) (columns j within)
        ∙ ap (λ (r : ℕ). whole (pos (j + corner.column)) (pos r)) (rows j within)

    pub row_shown : take (3 * width) (drop (3 * first) p.bytes) ≡ row_bytes width (crop corner whole) row
    unfolding row_bytes
    row_shown =
        let long : 3 * (first + 0 + width) ≤ length p.bytes = omega (arith, is.size, inside width (omega arith)) in
        let start : first + 0 ≡ first = omega arith in
        ap (λ (i : ℕ). take (3 * width) (drop (3 * i) p.bytes)) (sym start)
        ∙ colors_shown p.bytes (λ j. crop corner whole (pos j) (pos row)) first 0 width long (λ j within. pixels j (omega arith))

-- ---- rows

-- a row more, below those that are written
pub row_more : (f : ℕ → List ℕ) (row count : ℕ) →
    flat_map f (reverse (range_with_len row (suc count))) ≡ flat_map f (reverse (range_with_len (row + 1) count)) ++ f row
row_more f row count =
    ap (flat_map f) (reverse-append (row ∷ []) (range_with_len (row + 1) count))
    ∙ flat_map-append f (reverse (range_with_len (row + 1) count)) (row ∷ [])
    ∙ ap (λ (last : List ℕ). flat_map f (reverse (range_with_len (row + 1) count)) ++ last) (append-nil (f row))

-- the step of a loop over the rows from the top down
pub row_written : (f : ℕ → List ℕ) (row height : ℕ) (old before after : List ℕ) → 0 < row → row ≤ height →
    before ≡ old ++ flat_map f (reverse (range_with_len row (height - row))) → after ≡ before ++ f (row - 1) →
    after ≡ old ++ flat_map f (reverse (range_with_len (row - 1) (height - (row - 1))))
row_written f row height old before after some most so_far written =
    let left : height - (row - 1) ≡ suc (height - row) = omega arith in
    let next : row - 1 + 1 ≡ row = omega arith in
    written
    ∙ ap (λ (bytes : List ℕ). bytes ++ f (row - 1)) so_far
    ∙ append_assoc old (flat_map f (reverse (range_with_len row (height - row)))) (f (row - 1))
    ∙ ap (λ (n : ℕ). old ++ (flat_map f (reverse (range_with_len n (height - row))) ++ f (row - 1))) (sym next)
    ∙ ap (λ (bytes : List ℕ). old ++ bytes) (sym (row_more f (row - 1) (height - row)))
    ∙ ap (λ (n : ℕ). old ++ flat_map f (reverse (range_with_len (row - 1) n))) (sym left)
