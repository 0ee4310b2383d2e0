-- Which pixels of a view the boxes of placed labels take.
use Rattle.std.specs.Prelude.{◌≡◌, ℕ, ◌+◌, ◌*◌, ◌/◌, ◌%◌, ◌<◌, ◌≤◌, ◌==◌, Bool, true, List, length, slice_index}
use Rattle.std.specs.Int.{bit_at}
use Rattle.std.specs.List.{All, list_any}
use Rattle.wf_geometry.specs.Exact.{is_less}
use Rattle.wf_geometry.specs.View.{ViewValue}
use Rattle.wf_label.specs.Colored.{is_in}
use Rattle.wf_label.specs.PixelBox.{box_of, is_whole_in}
use Rattle.wf_label.specs.Placed.{PlacedValue}
use Rattle.wf_label.specs.declared.placed.PixelBox.{PixelBox}

-- the box has a pixel
pub record IsSolid (b : PixelBox) : Type 0 where
  pub wide : is_less b.left b.right ≡ true
  pub high : is_less b.bottom b.top ≡ true

-- the label's box has a pixel, and lies whole in the view
pub record LiesInView (view : ViewValue) (label : PlacedValue) : Type 0 where
  pub solid : IsSolid (box_of label)
  pub whole : is_whole_in view (box_of label) ≡ true

-- the box of one of the labels takes the pixel
unfoldable pub is_taken : List PlacedValue → ℕ → ℕ → Bool
is_taken placed column row = list_any (λ other. is_in (box_of other) column row) placed

-- the pixel at this index is marked: its bit is set, of 64 in each word from the lowest on
unfoldable pub is_marked : List ℕ → ℕ → Bool
is_marked marks index = bit_at (slice_index marks (index / 64)) (index % 64) == 1

-- words with a bit for each of so many pixels
abbrev pub words_for : ℕ → ℕ
words_for area = area / 64 + 1

-- the pixels that the labels take are marked, and no others; a bit a pixel, row by row from the
-- bottom
pub record IsTaken (view : ViewValue) (placed : List PlacedValue) (marks : List ℕ) : Type 0 where
  pub size : length marks ≡ words_for (view.width * view.height)
  pub shown : All (LiesInView view) placed
  pub each : (column row : ℕ) → column < view.width → row < view.height → is_marked marks (row * view.width + column) ≡ is_taken placed column row

-- a marked pixel of the view that lies in the box
pub record IsMet (view : ViewValue) (b : PixelBox) (marks : List ℕ) : Type 0 where
  pub column : ℕ
  pub row : ℕ
  pub wide : column < view.width
  pub high : row < view.height
  pub inside : is_in b column row ≡ true
  pub marked : is_marked marks (row * view.width + column) ≡ true

-- an index from `start` to before `end` is marked
pub record IsMarkedWithin (marks : List ℕ) (start end : ℕ) : Type 0 where
  pub index : ℕ
  pub from : start ≤ index
  pub before : index < end
  pub marked : is_marked marks index ≡ true
