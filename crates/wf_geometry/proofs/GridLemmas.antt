-- At most one cell of the grid fits a box: its cells are far wider than the tolerance.
use Rattle.std.proofs.Common.{◌≡◌, ℕ, ◌+◌, ◌*◌, ◌^◌, ◌<◌, ◌≤◌, ◌==◌, ◌&&◌, Bool, true, false, nat_le, Option, Some, None, IfSome, IfNone, ℤ, pos, negsuc, neg_ℤ, ◌+ℤ◌, ◌-ℤ◌, ◌*ℤ◌, nat_abs, refl, sym, ap, ◌∙◌, subst, ⊎_elim, arith}
use Rattle.std.proofs.Math.Nat.{mul-le-mul, mul-le-mul_left, pow-le-pow_right}
use Rattle.std.proofs.lemmas.Nat.{pow_pos, pow-add}
use Rattle.std.proofs.lemmas.Bool.{cases_order}
use Rattle.std.proofs.lemmas.Int.{ints}
use borrow.Author.Tests.{leb-true, le-leb}
use borrow.Author.Differences.{sum_is_lem, neg_is}
use Rattle.wf_def.specs.Extent.{ExtentValue}
use Rattle.wf_def.specs.Limit.{most_millionths}
use Rattle.wf_geometry.specs.Exact.{plus, difference, product}
use Rattle.wf_geometry.specs.Grid.{is_on_line, is_cell, has_level, is_box, fits, width_of, IsGridCell}
use Rattle.wf_geometry.specs.Limit.{most_level, tile_pixels}
use Rattle.wf_geometry.specs.declared.grid.GridCell.{GridCell}
use Rattle.wf_geometry.proofs.QuotientLemmas.{nearest_line}

pub level_wide : (width cells : ℕ) → has_level width cells ≡ true → 1_000 * cells ≤ width
unfolding has_level
level_wide width cells level = leb-true (1_000 * cells) width level

-- a line that the coordinate lies on is within a quarter of a cell of it
pub line_near_enough : (least : ℤ) (width cells : ℕ) (k x : ℤ) → has_level width cells ≡ true → is_on_line least width cells k x ≡ true →
    4 * nat_abs (difference (product (difference x least) (pos cells)) (product k (pos width))) ≤ width
unfolding is_on_line
line_near_enough least width cells k x level on =
    let near : nat_abs (difference (product (difference x least) (pos cells)) (product k (pos width))) ≤ 2 * cells = leb-true _ _ on in
    let wide = level_wide width cells level in
    omega arith

-- a coordinate lies at most 2^38 cells from the extent's side
pub stretched_most : (d width cells : ℕ) → d ≤ 2 * most_millionths → has_level width cells ≡ true → d * cells ≤ 2 ^ 38 * width
stretched_most d width cells most level =
    let product : d * cells ≤ 2 * most_millionths * cells = mul-le-mul most (omega arith) in
    let wide = level_wide width cells level in
    omega arith

and_first : (a b : Bool) → (a && b) ≡ true → a ≡ true
and_first true b both = refl
and_first false b both = both

and_second : (a b : Bool) → (a && b) ≡ true → b ≡ true
and_second true b both = both
and_second false b both = cc

and_false : (b : Bool) → (b && false) ≡ false
and_false true = refl
and_false false = refl

pub box_without_level : (e box : ExtentValue) (cells : ℕ) (col row : ℤ) → has_level (width_of e) cells ≡ false → is_box e box cells col row ≡ false
unfolding is_box
box_without_level e box cells col row none = rw none refl

pub box_without_col : (e box : ExtentValue) (cells : ℕ) (col row : ℤ) → is_cell e.minx (width_of e) cells col box.minx box.maxx ≡ false → is_box e box cells col row ≡ false
unfolding is_box
box_without_col e box cells col row none = rw none (and_false (has_level (width_of e) cells))

pub box_without_row : (e box : ExtentValue) (cells : ℕ) (col row : ℤ) → is_cell e.miny (width_of e) cells row box.miny box.maxy ≡ false → is_box e box cells col row ≡ false
unfolding is_box
box_without_row e box cells col row none = rw (none, and_false (is_cell e.minx (width_of e) cells col box.minx box.maxx)) (and_false (has_level (width_of e) cells))

pub box_found : (e box : ExtentValue) (cells : ℕ) (col row : ℤ) → has_level (width_of e) cells ≡ true →
    is_cell e.minx (width_of e) cells col box.minx box.maxx ≡ true → is_cell e.miny (width_of e) cells row box.miny box.maxy ≡ true → is_box e box cells col row ≡ true
unfolding is_box
box_found e box cells col row level x y = rw (level, x, y) refl

-- the coordinate can lie only on the nearest line, so only that cell can fit
pub cell_none : (least : ℤ) (width cells : ℕ) (low high near : ℤ) → ((j : ℤ) → is_on_line least width cells j low ≡ true → j ≡ near) →
    is_cell least width cells near low high ≡ false → (k : ℤ) → is_cell least width cells k low high ≡ false
unfolding is_cell
cell_none least width cells low high near only none k = by_test (is_on_line least width cells k low) refl where
  by_test : (b : Bool) → is_on_line least width cells k low ≡ b → is_cell least width cells k low high ≡ false
  by_test true on = ap (λ (j : ℤ). is_on_line least width cells j low && is_on_line least width cells (plus j (pos 1)) high) (only k on) ∙ none
  by_test false off = rw off refl

pub fits_size : (e box : ExtentValue) (width height : ℕ) (cell : GridCell) → ((width == tile_pixels) && (height == tile_pixels)) ≡ false → fits e box width height cell ≡ false
unfolding fits
fits_size e box width height cell other = rw other refl

pub fits_none : (e box : ExtentValue) (width height : ℕ) → ((z : ℕ) → z ≤ most_level → (col row : ℤ) → is_box e box (2 ^ z) col row ≡ false) →
    (cell : GridCell) → fits e box width height cell ≡ false
unfolding fits
fits_none e box width height none cell = by_test (nat_le cell.z most_level) refl where
  by_test : (b : Bool) → nat_le cell.z most_level ≡ b → fits e box width height cell ≡ false
  by_test true low = rw (none cell.z (leb-true _ _ low) cell.col cell.row) (and_false _)
  by_test false high = rw (high, and_false ((width == tile_pixels) && (height == tile_pixels))) refl

-- ---- no two cells fit

times_difference : (a b : ℤ) (n : ℕ) → (a -ℤ b) *ℤ pos n ≡ a *ℤ pos n -ℤ b *ℤ pos n
times_difference a b n =
    let summed = ap (λ (t : ℕ). t * n) (sum_is_lem a (neg_ℤ b)) in
    let up_part = ap (λ (t : ℕ). t * n) ((neg_is b).0) in
    let down_part = ap (λ (t : ℕ). t * n) ((neg_is b).1) in
    omega (arith, ints)

times_next : (k : ℤ) (n : ℕ) → (k +ℤ pos 1) *ℤ pos n ≡ k *ℤ pos n +ℤ pos n
times_next k n = let scaled = ap (λ (t : ℕ). t * n) (sum_is_lem k (pos 1)) in omega (arith, ints)

line_at : (least : ℤ) (width cells : ℕ) (k x : ℤ) → is_on_line least width cells k x ≡ true → nat_abs ((x -ℤ least) *ℤ pos cells -ℤ k *ℤ pos width) ≤ 2 * cells
unfolding is_on_line difference product
line_at least width cells k x on = leb-true (nat_abs ((x -ℤ least) *ℤ pos cells -ℤ k *ℤ pos width)) (2 * cells) on

side_of_lines : (least low high k : ℤ) (width cells : ℕ) → nat_abs ((low -ℤ least) *ℤ pos cells -ℤ k *ℤ pos width) ≤ 2 * cells →
    nat_abs ((high -ℤ least) *ℤ pos cells -ℤ (k +ℤ pos 1) *ℤ pos width) ≤ 2 * cells → nat_abs ((high -ℤ low) *ℤ pos cells -ℤ pos width) ≤ 4 * cells
side_of_lines least low high k width cells left right =
    let a = times_difference high least cells in
    let b = times_difference low least cells in
    let c = times_difference high low cells in
    let d = times_next k width in
    omega (arith, ints)

-- a box that is a cell is as wide as one, within four millionths
cell_side : (least : ℤ) (width cells : ℕ) (k low high : ℤ) → is_cell least width cells k low high ≡ true → nat_abs ((high -ℤ low) *ℤ pos cells -ℤ pos width) ≤ 4 * cells
unfolding is_cell plus
cell_side least width cells k low high fit =
    let left : is_on_line least width cells k low ≡ true = and_first (is_on_line least width cells k low) (is_on_line least width cells (k +ℤ pos 1) high) fit in
    let right : is_on_line least width cells (k +ℤ pos 1) high ≡ true = and_second (is_on_line least width cells k low) (is_on_line least width cells (k +ℤ pos 1) high) fit in
    side_of_lines least low high k width cells (line_at least width cells k low left) (line_at least width cells (k +ℤ pos 1) high right)

-- no box is as wide as cells of two levels
levels_apart : (side : ℤ) (width few many : ℕ) → 1 ≤ many → 2 * few ≤ many → 1_000 * many ≤ width →
    nat_abs (side *ℤ pos few -ℤ pos width) ≤ 4 * few → nat_abs (side *ℤ pos many -ℤ pos width) ≤ 4 * many → ⊥
levels_apart (pos d) width few many some twice wide first second =
    let grown : d * (2 * few) ≤ d * many = mul-le-mul_left d twice in omega (arith, ints)
levels_apart (negsuc d) width few many some twice wide first second = omega (arith, ints)

-- what follows from a cell that fits
pub record IsFit (e box : ExtentValue) (cell : GridCell) : Type 0 where
  pub level : has_level (width_of e) (2 ^ cell.z) ≡ true
  pub col : is_cell e.minx (width_of e) (2 ^ cell.z) cell.col box.minx box.maxx ≡ true
  pub row : is_cell e.miny (width_of e) (2 ^ cell.z) cell.row box.miny box.maxy ≡ true

fit_of : (e box : ExtentValue) (width height : ℕ) (cell : GridCell) → fits e box width height cell ≡ true → IsFit e box cell
unfolding fits is_box
fit_of e box width height cell fit =
    let here = and_second _ _ fit in
    let sides = and_second (has_level (width_of e) (2 ^ cell.z)) _ here in
    record { level = and_first (has_level (width_of e) (2 ^ cell.z)) _ here; col = and_first _ _ sides; row = and_second _ _ sides }

levels_differ : (e box : ExtentValue) (c d : GridCell) → IsFit e box c → IsFit e box d → c.z < d.z → ⊥
levels_differ e box c d first second lower =
    let twice : 2 ^ (c.z + 1) ≤ 2 ^ d.z = pow-le-pow_right {n = 2} (omega arith) {i = c.z + 1} {j = d.z} (omega arith) in
    let double : 2 ^ (c.z + 1) ≡ 2 ^ c.z * 2 ^ 1 = pow-add 2 c.z 1 in
    levels_apart (box.maxx -ℤ box.minx) (width_of e) (2 ^ c.z) (2 ^ d.z) (pow_pos d.z) (omega arith) (level_wide (width_of e) (2 ^ d.z) second.level)
    (cell_side e.minx (width_of e) (2 ^ c.z) c.col box.minx box.maxx first.col)
    (cell_side e.minx (width_of e) (2 ^ d.z) d.col box.minx box.maxx second.col)

line_same : (least : ℤ) (width cells : ℕ) (k j x : ℤ) → 0 < cells → has_level width cells ≡ true → is_on_line least width cells k x ≡ true → is_on_line least width cells j x ≡ true → k ≡ j
line_same least width cells k j x some level first second =
    let wide = level_wide width cells level in
    let number = product (difference x least) (pos cells) in
    sym (nearest_line number k width (omega arith) (line_near_enough least width cells k x level first))
    ∙ nearest_line number j width (omega arith) (line_near_enough least width cells j x level second)

cell_same : (least : ℤ) (width cells : ℕ) (k j low high : ℤ) → 0 < cells → has_level width cells ≡ true → is_cell least width cells k low high ≡ true → is_cell least width cells j low high ≡ true → k ≡ j
unfolding is_cell
cell_same least width cells k j low high some level first second =
    line_same least width cells k j low some level (and_first _ _ first) (and_first _ _ second)

same_level : (e box : ExtentValue) (c d : GridCell) → IsFit e box c → IsFit e box d → c.z ≡ d.z → c ≡ d
same_level e box c d first second same =
    let along : ℕ → Type 0 = λ z. is_cell e.minx (width_of e) (2 ^ z) d.col box.minx box.maxx ≡ true in
    let up : ℕ → Type 0 = λ z. is_cell e.miny (width_of e) (2 ^ z) d.row box.miny box.maxy ≡ true in
    let col = cell_same e.minx (width_of e) (2 ^ c.z) c.col d.col box.minx box.maxx (pow_pos c.z) first.level first.col (subst along (sym same) second.col) in
    let row = cell_same e.miny (width_of e) (2 ^ c.z) c.row d.row box.miny box.maxy (pow_pos c.z) first.level first.row (subst up (sym same) second.row) in
    λ i. record { z = same i; col = col i; row = row i }

-- two cells that fit one request are equal
pub one_cell : (e box : ExtentValue) (width height : ℕ) (c d : GridCell) → fits e box width height c ≡ true → fits e box width height d ≡ true → c ≡ d
one_cell e box width height c d first second =
    let a = fit_of e box width height c first in
    let b = fit_of e box width height d second in
    ⊎_elim (same_level e box c d a b) (⊎_elim (λ below. absurd (levels_differ e box c d a b below)) (λ above. absurd (levels_differ e box d c b a above))) (cases_order c.z d.z)

pub fit_level : (e box : ExtentValue) (width height : ℕ) (cell : GridCell) → fits e box width height cell ≡ true → has_level (width_of e) (2 ^ cell.z) ≡ true
fit_level e box width height cell fit = (fit_of e box width height cell fit).level

-- what is found among the levels fits, where the size is a tile's
pub fits_found : (e box : ExtentValue) (width height : ℕ) (found : Option GridCell) → ((width == tile_pixels) && (height == tile_pixels)) ≡ true →
    IfSome found (λ cell. is_box e box (2 ^ cell.z) cell.col cell.row ≡ true) → IfSome found IsGridCell → IfSome found (λ cell. fits e box width height cell ≡ true)
unfolding fits
fits_found e box width height None tile boxed near = tt
fits_found e box width height (Some cell) tile boxed near = rw (tile, le-leb cell.z most_level near.level, boxed) refl

-- where none is found, none fits
pub none_fits : (e box : ExtentValue) (width height : ℕ) (found : Option GridCell) →
    IfNone found ((z : ℕ) → z ≤ most_level → (col row : ℤ) → is_box e box (2 ^ z) col row ≡ false) → IfNone found ((cell : GridCell) → fits e box width height cell ≡ false)
none_fits e box width height None none = fits_none e box width height none
none_fits e box width height (Some cell) none = tt
