-- Strips: the pixels of some rows and columns whose level lies within a margin, and where those of
-- a row begin and end.
use Rattle.std.specs.Prelude.{◌≡◌, ◌⊎◌, ℕ, ◌+◌, ◌*◌, ◌^◌, ◌<◌, ◌≤◌, ◌&&◌, Bool, ℤ, pos, nat_abs}
use Rattle.wf_geometry.specs.Exact.{plus, difference, product, opposite, quotient, number_of}
use Rattle.wf_geometry.specs.Level.{level, row_level, level_at, is_in_margin}
use Rattle.wf_geometry.specs.Limit.{pixel_side}
use Rattle.wf_geometry.specs.Span.{is_within}
use Rattle.wf_geometry.specs.declared.row.RowEnds.{RowEnds}
use Rattle.wf_geometry.specs.declared.levels.Levels.{Levels}
use Rattle.wf_geometry.specs.declared.row.Quotient.{Quotient}
use Rattle.wf_geometry.specs.declared.level.Span.{Span}

unfoldable pub is_in_strip : Levels → Span → Span → ℕ → ℕ → Bool
is_in_strip l rows columns column row = is_within columns column && (is_within rows row && is_in_margin l.margin (level_at l column row))

-- the whole part tells which pixels of the row lie below the bound: those up to it
pub record IsStripEnd (bound start change : ℤ) (step row : ℕ) (q : Quotient) : Type 0 where
  pub value : plus (number_of step q) (pos 1) ≡ difference bound (level start change (pos row))
  pub rest : q.rest < step

-- the ends are those of this row, and their change leads to those of the next ones
pub record AreEnds (l : Levels) (row : ℕ) (e : RowEnds) : Type 0 where
  pub across : pos e.step ≡ product (pos pixel_side) l.across
  pub most : e.step ≤ 2 ^ 60
  pub begins : IsStripEnd (opposite l.margin) l.origin (product (pos pixel_side) l.up) e.step row e.low
  pub near : nat_abs e.low.whole ≤ (row + 1) * 2 ^ 51
  pub apart : number_of e.step e.gap ≡ plus l.margin l.margin
  pub gap_rest : e.gap.rest < e.step
  pub wide : nat_abs e.gap.whole ≤ 2 ^ 50
  pub moves : number_of e.step e.change ≡ opposite (product (pos pixel_side) l.up)
  pub change_rest : e.change.rest < e.step
  pub slow : nat_abs e.change.whole ≤ 2 ^ 50

-- the quotient's whole part is too far from 0 for sums over a picture's rows in 64 bits
abbrev pub IsFar : ℤ → ℤ → Type 0
IsFar number divisor = 2 ^ 50 < nat_abs (quotient number divisor)

-- the levels don't change from column to column, or the lower end, the distance of the ends or
-- their change is too far from 0
abbrev pub HasNoEnds : Levels → ℕ → Type 0
HasNoEnds l row = (l.across ≡ pos 0)
    ⊎ (IsFar (difference (difference (opposite l.margin) (row_level l row)) (pos 1)) (product (pos pixel_side) l.across)
    ⊎ (IsFar (plus l.margin l.margin) (product (pos pixel_side) l.across)
    ⊎ IsFar (opposite (product (pos pixel_side) l.up)) (product (pos pixel_side) l.across)))
