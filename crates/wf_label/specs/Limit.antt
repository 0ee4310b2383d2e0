-- The sizes of letters, each once, with its unit. The constants of the code are proved equal to
-- them.
use Rattle.std.specs.Prelude.{ℕ}

-- the width and height of a character's cell, in bits
abbrev pub cell_width : ℕ
cell_width = 4

abbrev pub cell_height : ℕ
cell_height = 6

-- the width and height of its glyph, in bits: it leaves the cell's last column and lowest row free
abbrev pub glyph_width : ℕ
glyph_width = 3

abbrev pub glyph_height : ℕ
glyph_height = 5
