-- The limits of views and of the tile grid, each once, with its unit. The constants of the code are
-- proved equal to them.
use Rattle.std.specs.Prelude.{ℕ}

-- the greatest width and height of a view, in pixels
abbrev pub most_pixels : ℕ
most_pixels = 1_024

-- the side of a pixel, in the unit of positions: sixteenths of a pixel
abbrev pub pixel_side : ℕ
pixel_side = 16

-- half of it: from the border of a pixel to its centre
abbrev pub half_side : ℕ
half_side = 8

-- the highest level of the tile grid
abbrev pub most_level : ℕ
most_level = 20

-- the least width of a cell, in millionths
abbrev pub least_cell : ℕ
least_cell = 1_000

-- the width and height of a tile, in pixels
abbrev pub tile_pixels : ℕ
tile_pixels = 256

-- how many tiles share a view, in each row and in each column of tiles
abbrev pub shared_tiles : ℕ
shared_tiles = 4
