-- The part of a row's pixels that lies in some columns, and blocks of rows that painted ones hide.
use Rattle.std.specs.Prelude.{◌≡◌, ℕ, ◌+◌, ◌<◌, ◌≤◌, ◌==◌, nat_lt, ℤ, pos, nat_abs, ◌≤ℤ◌, if◌then◌else◌}
use Rattle.wf_paint.specs.Canvas.{CanvasValue, IsBoxPainted}
use Rattle.wf_geometry.specs.Exact.{plus, product, opposite, is_less, number_of}
use Rattle.wf_geometry.specs.Limit.{pixel_side}
use Rattle.wf_geometry.specs.Span.{shared}
use Rattle.wf_geometry.specs.Strip.{IsStripEnd}
use Rattle.wf_geometry.specs.declared.levels.Levels.{Levels}
use Rattle.wf_geometry.specs.declared.row.Quotient.{Quotient}
use Rattle.wf_geometry.specs.declared.level.Span.{Span}

-- a number counts u if u times the divisor isn't greater: the span has those of the columns that
-- the high number counts and the low one doesn't
pub record IsRowPart (columns : Span) (low high : Quotient) (span : Span) : Type 0 where
  pub within : Span
  pub to_within : within.to ≤ columns.to
  pub from : (divisor u : ℕ) → low.rest < divisor → u < columns.to →
      is_less (product (pos divisor) (pos u)) (plus (number_of divisor low) (pos 1)) ≡ nat_lt u within.from
  pub to : (divisor u : ℕ) → high.rest < divisor → u < columns.to →
      is_less (product (pos divisor) (pos u)) (plus (number_of divisor high) (pos 1)) ≡ nat_lt u within.to
  pub value : span ≡ shared columns within

-- the most pixels of a row whose ends lie so far apart
unfoldable pub most_between : Quotient → ℕ
most_between gap = if gap.rest == 0 then nat_abs gap.whole else nat_abs gap.whole + 1

-- the `width` pixels after those that the number counts, 1 to 64, are all in the columns
pub record IsBetween (columns : Span) (width : ℕ) (q : Quotient) : Type 0 where
  pub least : 1 ≤ width
  pub most : width ≤ 64
  pub from : pos columns.from ≤ℤ plus q.whole (pos 1)
  pub to : plus (plus q.whole (pos 1)) (pos width) ≤ℤ pos columns.to

-- the same in each row
pub record StaysBetween (l : Levels) (step width : ℕ) (rows columns : Span) : Type 0 where
  pub each : (row : ℕ) → rows.from ≤ row → row < rows.to → (q : Quotient) →
      IsStripEnd (opposite l.margin) l.origin (product (pos pixel_side) l.up) step row q → IsBetween columns width q

-- all pixels of 16 rows are painted in columns among which the `width` pixels of the first row and
-- those of the row after them lie
pub record IsHiddenBlock (row width : ℕ) (low next : Quotient) (c : CanvasValue) : Type 0 where
  pub columns : Span
  pub first : IsBetween columns width low
  pub last : IsBetween columns width next
  pub painted : IsBoxPainted row (row + 16) columns.from columns.to c
