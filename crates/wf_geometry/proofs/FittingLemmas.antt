-- Each request has a view: on each level the nearest grid lines alone can be the sides of its box,
-- so whether a cell fits is decided.
use Rattle.std.proofs.Common.{◌≡◌, ℕ, zero, suc, ◌*◌, ◌^◌, ◌<◌, ◌≤◌, ◌==◌, ◌&&◌, ◌⊎◌, inl, inr, Bool, true, false, true≢false, ℤ, pos, refl, sym, ap, ◌∙◌, subst, ⊎_elim, arith}
use Rattle.std.proofs.lemmas.Nat.{pow_pos}
use Rattle.std.proofs.lemmas.Bool.{cases_order}
use borrow.Author.Tests.{le-leb}
use Rattle.wf_def.specs.Extent.{ExtentValue}
use Rattle.wf_geometry.specs.Exact.{plus, difference, product, quotient}
use Rattle.wf_geometry.specs.Grid.{is_on_line, is_cell, has_level, is_box, fits, width_of}
use Rattle.wf_geometry.specs.Limit.{most_level, tile_pixels}
use Rattle.wf_geometry.specs.Tile.{EachRequestHasAView, HasView, box_view, tile_view}
use Rattle.wf_geometry.specs.declared.grid.GridCell.{GridCell}
use Rattle.wf_geometry.proofs.GridLemmas.{box_found, box_without_col, box_without_level, box_without_row, cell_none, fits_none, fits_size, level_wide, line_near_enough, one_cell}
use Rattle.wf_geometry.proofs.QuotientLemmas.{nearest_line}

-- the grid line that a coordinate is nearest to
abbrev near : ℤ → ℕ → ℕ → ℤ → ℤ
near least width cells x = quotient (plus (product (pos 2) (product (difference x least) (pos cells))) (pos width)) (pos (2 * width))

only_near : (least : ℤ) (width cells : ℕ) (x : ℤ) → 0 < cells → has_level width cells ≡ true →
    (j : ℤ) → is_on_line least width cells j x ≡ true → j ≡ near least width cells x
only_near least width cells x some level j on =
    let wide = level_wide width cells level in
    sym (nearest_line (product (difference x least) (pos cells)) j width (omega arith) (line_near_enough least width cells j x level on))

-- on one axis there is a cell with these two sides
record OnAxis (least : ℤ) (width cells : ℕ) (low high : ℤ) : Type 0 where
  index : ℤ
  is : is_cell least width cells index low high ≡ true

on_axis : (least : ℤ) (width cells : ℕ) (low high : ℤ) → 0 < cells → has_level width cells ≡ true →
    OnAxis least width cells low high ⊎ ((k : ℤ) → is_cell least width cells k low high ≡ false)
on_axis least width cells low high some level = by_test (is_cell least width cells (near least width cells low) low high) refl where
  by_test : (b : Bool) → is_cell least width cells (near least width cells low) low high ≡ b
      → OnAxis least width cells low high ⊎ ((k : ℤ) → is_cell least width cells k low high ≡ false)
  by_test true found = inl (record { index = near least width cells low; is = found })
  by_test false off = inr (cell_none least width cells low high (near least width cells low) (only_near least width cells low some level) off)

-- the box is one of these cells
record AtLevel (e box : ExtentValue) (cells : ℕ) : Type 0 where
  col : ℤ
  row : ℤ
  is : is_box e box cells col row ≡ true

abbrev NoneAt : ExtentValue → ExtentValue → ℕ → Type 0
NoneAt e box cells = (col row : ℤ) → is_box e box cells col row ≡ false

module _ (e box : ExtentValue) (cells : ℕ) (some : 0 < cells) where
  by_rows : has_level (width_of e) cells ≡ true → OnAxis e.minx (width_of e) cells box.minx box.maxx →
      OnAxis e.miny (width_of e) cells box.miny box.maxy ⊎ ((k : ℤ) → is_cell e.miny (width_of e) cells k box.miny box.maxy ≡ false) →
      AtLevel e box cells ⊎ NoneAt e box cells
  by_rows level col (inl row) = inl (record { col = col.index; row = row.index; is = box_found e box cells col.index row.index level col.is row.is })
  by_rows level col (inr none) = inr (λ c r. box_without_row e box cells c r (none r))

  by_columns : has_level (width_of e) cells ≡ true →
      OnAxis e.minx (width_of e) cells box.minx box.maxx ⊎ ((k : ℤ) → is_cell e.minx (width_of e) cells k box.minx box.maxx ≡ false) →
      AtLevel e box cells ⊎ NoneAt e box cells
  by_columns level (inl col) = by_rows level col (on_axis e.miny (width_of e) cells box.miny box.maxy some level)
  by_columns level (inr none) = inr (λ c r. box_without_col e box cells c r (none c))

  at_level : (b : Bool) → has_level (width_of e) cells ≡ b → AtLevel e box cells ⊎ NoneAt e box cells
  at_level true level = by_columns level (on_axis e.minx (width_of e) cells box.minx box.maxx some level)
  at_level false narrow = inr (λ c r. box_without_level e box cells c r narrow)

-- the box is a cell of one of the first n levels
record Below (e box : ExtentValue) (n : ℕ) : Type 0 where
  z : ℕ
  low : z < n
  cell : AtLevel e box (2 ^ z)

abbrev NoneBelow : ExtentValue → ExtentValue → ℕ → Type 0
NoneBelow e box n = (z : ℕ) → z < n → NoneAt e box (2 ^ z)

none_at_next : (e box : ExtentValue) (n : ℕ) → NoneBelow e box n → NoneAt e box (2 ^ n) → NoneBelow e box (suc n)
none_at_next e box n none at z low =
    ⊎_elim (λ (same : z ≡ n). subst (λ k. NoneAt e box (2 ^ k)) (sym same) at)
    (⊎_elim (λ (lower : z < n). none z lower) (λ (above : n < z). absurd (omega arith)))
    (cases_order z n)

below : (e box : ExtentValue) (n : ℕ) → Below e box n ⊎ NoneBelow e box n
below e box zero = inr (λ z low. absurd (omega arith))
below e box (suc n) = by_last (below e box n) (at_level e box (2 ^ n) (pow_pos n) (has_level (width_of e) (2 ^ n)) refl) where
  by_last : Below e box n ⊎ NoneBelow e box n → AtLevel e box (2 ^ n) ⊎ NoneAt e box (2 ^ n) → Below e box (suc n) ⊎ NoneBelow e box (suc n)
  by_last (inl found) at = inl (record { z = found.z; low = let l = found.low in omega arith; cell = found.cell })
  by_last (inr none) (inl cell) = inl (record { z = n; low = omega arith; cell = cell })
  by_last (inr none) (inr at) = inr (none_at_next e box n none at)

-- a picture of the box at this size is the tile of a cell
record Fits (e box : ExtentValue) (width height : ℕ) : Type 0 where
  cell : GridCell
  is : fits e box width height cell ≡ true

fits_at : (e box : ExtentValue) (width height z : ℕ) (col row : ℤ) → ((width == tile_pixels) && (height == tile_pixels)) ≡ true → z ≤ most_level →
    is_box e box (2 ^ z) col row ≡ true → fits e box width height (record { z = z; col = col; row = row }) ≡ true
unfolding fits
fits_at e box width height z col row tile low boxed = rw (tile, le-leb z most_level low, boxed) refl

module _ (e box : ExtentValue) (width height : ℕ) where
  by_levels : ((width == tile_pixels) && (height == tile_pixels)) ≡ true → Below e box (suc most_level) ⊎ NoneBelow e box (suc most_level) →
      Fits e box width height ⊎ ((cell : GridCell) → fits e box width height cell ≡ false)
  by_levels tile (inl found) = inl (record {
    cell = record { z = found.z; col = found.cell.col; row = found.cell.row };
    is = let low = found.low in fits_at e box width height found.z found.cell.col found.cell.row tile (omega arith) found.cell.is;
  })
  by_levels tile (inr none) = inr (fits_none e box width height (λ z low. none z (omega arith)))

  by_size : (b : Bool) → ((width == tile_pixels) && (height == tile_pixels)) ≡ b →
      Fits e box width height ⊎ ((cell : GridCell) → fits e box width height cell ≡ false)
  by_size true tile = by_levels tile (below e box (suc most_level))
  by_size false other = inr (λ cell. fits_size e box width height cell other)

  viewed : Fits e box width height ⊎ ((cell : GridCell) → fits e box width height cell ≡ false) → HasView e box width height
  viewed (inl found) = record {
    view = tile_view e found.cell;
    is = record {
      tile = λ cell fit. ap (tile_view e) (one_cell e box width height found.cell cell found.is fit);
      plain = λ none. absurd (true≢false (sym found.is ∙ none found.cell));
    };
  }
  viewed (inr none) = record {
    view = box_view box width height;
    is = record {
      tile = λ cell fit. absurd (true≢false (sym fit ∙ none cell));
      plain = λ all. refl;
    };
  }

pub has_view : EachRequestHasAView
has_view e box width height = viewed e box width height (by_size e box width height _ refl)
