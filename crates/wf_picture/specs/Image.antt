-- Pictures as files: pixmaps in the raw form of Netpbm's PPM format, which begins with P6.
use Rattle.std.specs.Prelude.{ℕ, List, [], ◌∷◌, ◌++◌, reverse, codes, decimal, ℤ, pos}
use Rattle.std.specs.List.{flat_map, range_with_len}
use Rattle.wf_def.specs.declared.color.Color.{Color}

-- red, green and blue
abbrev pub color_bytes : Color → List ℕ
color_bytes color = color.r ∷ color.g ∷ color.b ∷ []

-- a row's pixels from left to right
unfoldable pub row_bytes : ℕ → (ℤ → ℤ → Color) → ℕ → List ℕ
row_bytes width picture row = flat_map (λ column. color_bytes (picture (pos column) (pos row))) (range_with_len 0 width)

-- the rows, which are counted upward, from the top one down
unfoldable pub pixel_bytes : ℕ → ℕ → (ℤ → ℤ → Color) → List ℕ
pixel_bytes width height picture = flat_map (row_bytes width picture) (reverse (range_with_len 0 height))

-- the form of the file, width and height in pixels, and the greatest value of a colour's part
unfoldable pub header : ℕ → ℕ → List ℕ
header width height = codes "P6\n" ++ (decimal width ++ (codes " " ++ (decimal height ++ codes "\n255\n")))

-- the file of a picture in this size
unfoldable pub image : ℕ → ℕ → (ℤ → ℤ → Color) → List ℕ
image width height picture = header width height ++ pixel_bytes width height picture
