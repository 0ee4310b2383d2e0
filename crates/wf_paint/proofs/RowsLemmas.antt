-- Pictures coloured row by row.
use Rattle.std.proofs.Common.{◌≡◌, Bool, false, ℕ, ◌+◌, ◌<◌, ◌≤◌, ◌==◌, ◌||◌, ◌&&◌, nat_lt, sym, ap, ◌∙◌, arith}
use Rattle.std.proofs.lemmas.Bool.Decides.{nat_tests}
use Rattle.wf_def.specs.declared.color.Color.{Color}
use Rattle.wf_paint.specs.Canvas.{CanvasValue}
use Rattle.wf_paint.specs.Shown.{IsColored, is_in_run}
use Rattle.wf_geometry.specs.Span.{IsSpanOf, is_within}
use Rattle.wf_geometry.specs.declared.level.Span.{Span}
use Rattle.wf_paint.proofs.ColoredLemmas.{IsColored-none, IsColored-either, IsColored-alike}

-- ---- row by row

-- the part of the test in the rows below this one
unfoldable pub below_row : ℕ → (ℕ → ℕ → Bool) → ℕ → ℕ → Bool
below_row row f column r = nat_lt r row && f column r

none_below : (shown : Bool) (r row : ℕ) → (r < row → shown ≡ false) → (nat_lt r row && shown) ≡ false
none_below shown r row none = grind (arith, nat_tests)

all_below : (shown : Bool) (r row : ℕ) → (row ≤ r → shown ≡ false) → (nat_lt r row && shown) ≡ shown
all_below shown r row none = grind (arith, nat_tests)

-- nothing to show in the rows below the first
pub rows_start : (f : ℕ → ℕ → Bool) (row : ℕ) (color : Color) (a : CanvasValue) →
    ((column r : ℕ) → column < a.width → r < a.height → r < row → f column r ≡ false) → IsColored (below_row row f) color a a
unfolding below_row
rows_start f row color a none = IsColored-none (below_row row f) color a (λ column r wide high. none_below (f column r) r row (none column r wide high))

-- nothing to show in the rows from the last on
pub rows_end : (f : ℕ → ℕ → Bool) (row : ℕ) (color : Color) (a b : CanvasValue) →
    ((column r : ℕ) → column < a.width → r < a.height → row ≤ r → f column r ≡ false) → IsColored (below_row row f) color a b → IsColored f color a b
unfolding below_row
rows_end f row color a b none colored = IsColored-alike (below_row row f) f color a b (λ column r wide high. sym (all_below (f column r) r row (none column r wide high))) colored

next_row : (shown span : Bool) (r row : ℕ) → (r ≡ row → shown ≡ span) →
    ((nat_lt r row && shown) || ((r == row) && span)) ≡ (nat_lt r (row + 1) && shown)
next_row shown span r row same = grind (arith, nat_tests)

-- one more row, in which the test holds in a span of columns
pub rows_more : (f : ℕ → ℕ → Bool) (row : ℕ) (span : Span) (color : Color) (a b c : CanvasValue) →
    IsColored (below_row row f) color a b → IsSpanOf (λ u. f u row) a.width span → IsColored (is_in_run row span.from span.to) color b c →
    IsColored (below_row (row + 1) f) color a c
unfolding below_row is_within is_in_run
rows_more f row span color a b c before here next =
    IsColored-alike (λ column r. below_row row f column r || is_in_run row span.from span.to column r) (below_row (row + 1) f) color a c
    (λ column r wide high. sym (next_row (f column r) (is_within span column) r row (λ equal. ap (f column) equal ∙ here.passed column wide)))
    (IsColored-either (below_row row f) (is_in_run row span.from span.to) color a b c before next)
