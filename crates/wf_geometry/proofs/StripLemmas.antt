-- Strips: which levels have the same pixels, and where the pixels of a row begin and end.
use Rattle.std.proofs.Common.{◌≡◌, Bool, true, false, ℕ, ◌+◌, ◌*◌, ◌^◌, ◌<◌, ◌≤◌, ◌&&◌, not, nat_lt, ⊎_elim, ℤ, pos, ◌+ℤ◌, ◌*ℤ◌, neg_ℤ, nat_abs, refl, sym, ap, subst, ◌∙◌, arith}
use Rattle.std.proofs.lemmas.Bool.{and_left, and_right, cases_lt}
use Rattle.std.proofs.lemmas.Int.{ints}
use Rattle.wf_geometry.specs.Exact.{plus, difference, product, opposite, quotient, is_less, number_of}
use Rattle.wf_geometry.specs.Level.{level, row_level, level_at, is_in_margin}
use Rattle.wf_geometry.specs.Span.{IsSpanOf, is_within}
use Rattle.wf_geometry.specs.Strip.{is_in_strip, AreEnds, IsStripEnd, IsFar}
use Rattle.wf_geometry.specs.declared.levels.Levels.{Levels}
use Rattle.wf_geometry.specs.declared.row.Quotient.{Quotient}
use Rattle.wf_geometry.specs.declared.level.Span.{Span}
use Rattle.wf_geometry.specs.Limit.{pixel_side}
use Rattle.wf_geometry.proofs.LineLemmas.{times_sum, sixteen}
use Rattle.wf_geometry.proofs.LevelLemmas.{opposed, level_still, rising_span}
use Rattle.wf_geometry.proofs.SpanLemmas.{is_within-before, is_within-after}

-- ---- sums of numbers with one divisor

one_divisor : (d : ℤ) → pos 1 *ℤ d ≡ d
one_divisor d = omega (arith, ints)

gathered : (whole a b r s t : ℤ) → whole ≡ a +ℤ b → r +ℤ s ≡ t → whole +ℤ t ≡ (a +ℤ r) +ℤ (b +ℤ s)
gathered whole a b r s t first second = omega (arith, ints)

pub sum_kept : (d r s : ℕ) (v w whole : ℤ) → whole ≡ v +ℤ w →
    plus (product whole (pos d)) (pos (r + s)) ≡ plus (plus (product v (pos d)) (pos r)) (plus (product w (pos d)) (pos s))
unfolding plus product
sum_kept d r s v w whole is = gathered (whole *ℤ pos d) (v *ℤ pos d) (w *ℤ pos d) (pos r) (pos s) (pos (r + s))
    (ap (λ (z : ℤ). z *ℤ pos d) is ∙ times_sum v w (pos d)) refl

carried : (all more d whole t : ℤ) → more ≡ all +ℤ d → whole ≡ all +ℤ (d +ℤ t) → more +ℤ t ≡ whole
carried all more d whole t first second = omega (arith, ints)

-- a divisor in the rests is one more multiple
pub sum_carried : (d r s t : ℕ) (v w whole : ℤ) → whole ≡ (v +ℤ w) +ℤ pos 1 → r + s ≡ d + t →
    plus (product whole (pos d)) (pos t) ≡ plus (plus (product v (pos d)) (pos r)) (plus (product w (pos d)) (pos s))
unfolding plus product
sum_carried d r s t v w whole is rests = carried ((v +ℤ w) *ℤ pos d) (whole *ℤ pos d) (pos d) _ (pos t)
    (ap (λ (z : ℤ). z *ℤ pos d) is ∙ times_sum (v +ℤ w) (pos 1) (pos d) ∙ ap (λ (z : ℤ). (v +ℤ w) *ℤ pos d +ℤ z) (one_divisor (pos d)))
    (sym (gathered ((v +ℤ w) *ℤ pos d) (v *ℤ pos d) (w *ℤ pos d) (pos r) (pos s) (pos d +ℤ pos t) (times_sum v w (pos d)) (ap pos rests)))

-- ---- levels

pub row_product : (row : ℕ) (up : ℤ) → product (pos (pixel_side * row)) up ≡ product (product (pos pixel_side) up) (pos row)
unfolding product
row_product row up = sixteen (pos row) up

pub sum_of : (sum a b c : ℤ) → sum ≡ a +ℤ b → b ≡ c → sum ≡ a +ℤ c
sum_of sum a b c is same = is ∙ ap (λ (z : ℤ). a +ℤ z) same

sixteen_opposed : (z : ℤ) → pos pixel_side *ℤ neg_ℤ z ≡ neg_ℤ (pos pixel_side *ℤ z)
sixteen_opposed z = omega (arith, ints)

mirrored_product : (z w : ℤ) (u : ℕ) → w ≡ opposite z → product (product (pos pixel_side) w) (pos u) ≡ opposite (product (product (pos pixel_side) z) (pos u))
unfolding product opposite
mirrored_product z w u is =
    ap (λ (y : ℤ). (pos pixel_side *ℤ y) *ℤ pos u) is ∙ ap (λ (y : ℤ). y *ℤ pos u) (sixteen_opposed z) ∙ opposed (pos pixel_side *ℤ z) u

mirrored_sum : (o p q a b c : ℤ) → a ≡ difference (opposite o) (pos 1) → b ≡ opposite p → c ≡ opposite q →
    plus (plus a b) c ≡ difference (opposite (plus (plus o p) q)) (pos 1)
unfolding plus difference opposite
mirrored_sum o p q a b c first second third = omega (arith, ints)

pub mirrored_level : (l m : Levels) (u v : ℕ) → m.origin ≡ difference (opposite l.origin) (pos 1) → m.across ≡ opposite l.across → m.up ≡ opposite l.up →
    level_at m u v ≡ difference (opposite (level_at l u v)) (pos 1)
unfolding level_at row_level level
mirrored_level l m u v origin across up =
    mirrored_sum l.origin (product (product (pos pixel_side) l.up) (pos v)) (product (product (pos pixel_side) l.across) (pos u)) m.origin _ _
    origin (mirrored_product l.up m.up v up) (mirrored_product l.across m.across u across)

swapped : (a b : Bool) → (a && b) ≡ (b && a)
swapped true true = refl
swapped true false = refl
swapped false true = refl
swapped false false = refl

above_mirrored : (m z w : ℤ) → w ≡ difference (opposite z) (pos 1) → not (is_less w (opposite m)) ≡ is_less z m
unfolding is_less opposite difference
above_mirrored m z w is = grind (arith, ints)

below_mirrored : (m z w : ℤ) → w ≡ difference (opposite z) (pos 1) → is_less w m ≡ not (is_less z (opposite m))
unfolding is_less opposite difference
below_mirrored m z w is = grind (arith, ints)

pub margin_mirrored : (m z w : ℤ) → w ≡ difference (opposite z) (pos 1) → is_in_margin m w ≡ is_in_margin m z
unfolding is_in_margin
margin_mirrored m z w is =
    ap (λ (t : Bool). t && is_less w m) (above_mirrored m z w is) ∙ ap (λ (t : Bool). is_less z m && t) (below_mirrored m z w is)
    ∙ swapped (is_less z m) (not (is_less z (opposite m)))

-- the same levels within a margin, beside another test
pub margin_same : (test : Bool) (l m : Levels) (u v : ℕ) → m.margin ≡ l.margin → is_in_margin l.margin (level_at m u v) ≡ is_in_margin l.margin (level_at l u v) →
    (test && is_in_margin l.margin (level_at l u v)) ≡ (test && is_in_margin m.margin (level_at m u v))
margin_same test l m u v same is = ap (λ (t : Bool). test && t) (sym is ∙ ap (λ (z : ℤ). is_in_margin z (level_at m u v)) (sym same))

-- ---- the ends of a row's pixels

pub one_more : (n bound z : ℤ) → n ≡ difference (difference bound z) (pos 1) → plus n (pos 1) ≡ difference bound z
unfolding plus difference
one_more n bound z is = omega (arith, ints)

end_begins : (l : Levels) (bound here : ℤ) (row step : ℕ) (q : Quotient) → here ≡ row_level l row →
    number_of step q ≡ difference (difference bound here) (pos 1) → q.rest < step → IsStripEnd bound l.origin (product (pos pixel_side) l.up) step row q
unfolding row_level
end_begins l bound here row step q is value rest = record { value = one_more (number_of step q) bound here value ∙ ap (difference bound) is; rest = rest }

pub ends_begin : (l : Levels) (here : ℤ) (row step : ℕ) (low gap change : Quotient) → pos step ≡ product (pos pixel_side) l.across → step ≤ 2 ^ 60 →
    here ≡ row_level l row → number_of step low ≡ difference (difference (opposite l.margin) here) (pos 1) → low.rest < step → nat_abs low.whole ≤ 2 ^ 50 →
    number_of step gap ≡ plus l.margin l.margin → gap.rest < step → nat_abs gap.whole ≤ 2 ^ 50 →
    number_of step change ≡ opposite (product (pos pixel_side) l.up) → change.rest < step → nat_abs change.whole ≤ 2 ^ 50 →
    AreEnds l row (record { low = low; gap = gap; change = change; step = step })
ends_begin l here row step low gap change across most is value rest near apart between wide moves further slow = record {
  across = across;
  most = most;
  begins = end_begins l (opposite l.margin) here row step low is value rest;
  near = omega (arith, near);
  apart = apart;
  gap_rest = between;
  wide = wide;
  moves = moves;
  change_rest = further;
  slow = slow;
}

-- ---- rows between the first and the last one

-- a quotient by the step is far where its number is
pub far_by_step : (number value divisor : ℤ) (step : ℕ) → number ≡ value → pos step ≡ divisor → 2 ^ 50 < nat_abs (quotient number (pos step)) → IsFar value divisor
far_by_step number value divisor step is same far =
    subst (λ (z : ℤ). IsFar z divisor) is (subst (λ (z : ℤ). IsFar number z) same far)

-- where levels rise and the multiples below both borders are counted, the span between has the
-- pixels within the margin
pub counted_row : (l : Levels) (step start lower upper : ℤ) (row most : ℕ) (span : Span) → span.to ≤ most → step ≡ product (pos pixel_side) l.across → start ≡ row_level l row →
    lower ≡ difference (opposite l.margin) start → upper ≡ difference l.margin start →
    ((u : ℕ) → u < most → is_less (product step (pos u)) lower ≡ nat_lt u span.from) →
    ((u : ℕ) → u < most → is_less (product step (pos u)) upper ≡ nat_lt u span.to) →
    IsSpanOf (λ u. is_in_margin l.margin (level_at l u row)) most span
unfolding level_at
counted_row l step start lower upper row most span within same here low high from to =
    let stepped : (u : ℕ) (bound : ℤ) → is_less (product (product (pos pixel_side) l.across) (pos u)) bound ≡ is_less (product step (pos u)) bound =
    λ u bound. ap (λ (z : ℤ). is_less (product z (pos u)) bound) (sym same) in
    rising_span (row_level l row) (product (pos pixel_side) l.across) l.margin most span within
    (λ u below. stepped u _ ∙ ap (is_less (product step (pos u))) (sym (low ∙ ap (difference (opposite l.margin)) here)) ∙ from u below)
    (λ u below. stepped u _ ∙ ap (is_less (product step (pos u))) (sym (high ∙ ap (difference l.margin) here)) ∙ to u below)

still_at : (z : ℤ) (u : ℕ) → level z (product (pos pixel_side) (pos 0)) (pos u) ≡ z
unfolding product
still_at z u = level_still z (pos u)

-- where the level is the same in each column, the whole row lies within the margin or nothing of it
pub level_row : (l : Levels) (margin : ℤ) (row most : ℕ) (span : Span) → l.across ≡ pos 0 →
    IsSpanOf (λ u. is_in_margin margin (row_level l row)) most span → IsSpanOf (λ u. is_in_margin margin (level_at l u row)) most span
unfolding level_at
level_row l margin row most span still whole = record {
  within = whole.within;
  passed = λ u below. ap (is_in_margin margin) (ap (λ (z : ℤ). level (row_level l row) (product (pos pixel_side) z) (pos u)) still ∙ still_at (row_level l row) u) ∙ whole.passed u below;
}

-- ---- how many pixels a row has

module _ (l : Levels) (rows columns : Span) (u v : ℕ) where
  out_of_rows : is_within rows v ≡ false → is_in_strip l rows columns u v ≡ false
  unfolding is_in_strip
  out_of_rows out = and_right (is_within columns u) (is_within rows v && is_in_margin l.margin (level_at l u v))
      (and_left (is_within rows v) (is_in_margin l.margin (level_at l u v)) out)

  pub strip_before : v < rows.from → is_in_strip l rows columns u v ≡ false
  strip_before before = out_of_rows (is_within-before rows v before)

  pub strip_after : rows.to ≤ v → is_in_strip l rows columns u v ≡ false
  strip_after after = out_of_rows (is_within-after rows v after)

  pub strip_nowhere : rows.to ≤ rows.from → is_in_strip l rows columns u v ≡ false
  strip_nowhere empty = ⊎_elim strip_before (λ from. strip_after (omega arith)) (cases_lt v rows.from)

  out_of_columns : is_within columns u ≡ false → is_in_strip l rows columns u v ≡ false
  unfolding is_in_strip
  out_of_columns out = and_left (is_within columns u) (is_within rows v && is_in_margin l.margin (level_at l u v)) out

  pub strip_without_columns : columns.to ≤ columns.from → is_in_strip l rows columns u v ≡ false
  strip_without_columns empty = ⊎_elim (λ before. out_of_columns (is_within-before columns u before))
      (λ from. out_of_columns (is_within-after columns u (omega arith))) (cases_lt u columns.from)

  near_rows : (a r b : Bool) → (r ≡ false → (a && b) ≡ false) → (a && b) ≡ (a && (r && b))
  near_rows a true b none = refl
  near_rows true false b none = none refl
  near_rows false false b none = refl

  near_columns : (a b : Bool) → (a ≡ false → b ≡ false) → b ≡ (a && b)
  near_columns true b none = refl
  near_columns false b none = none refl

  -- a test by columns and level that fails outside the rows is the strip's
  pub strip_of_columns : (shown : Bool) → shown ≡ (is_within columns u && is_in_margin l.margin (level_at l u v)) → (is_within rows v ≡ false → shown ≡ false) →
      shown ≡ is_in_strip l rows columns u v
  unfolding is_in_strip
  strip_of_columns shown is none =
      is ∙ near_rows (is_within columns u) (is_within rows v) (is_in_margin l.margin (level_at l u v)) (λ out. sym is ∙ none out)

  -- and one by rows and level that fails outside the columns
  pub strip_of_rows : (shown : Bool) → shown ≡ (is_within rows v && is_in_margin l.margin (level_at l u v)) → (is_within columns u ≡ false → shown ≡ false) →
      shown ≡ is_in_strip l rows columns u v
  unfolding is_in_strip
  strip_of_rows shown is none =
      is ∙ near_columns (is_within columns u) (is_within rows v && is_in_margin l.margin (level_at l u v)) (λ out. sym is ∙ none out)
