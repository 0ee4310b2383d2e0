-- How the ends of a row's pixels change from row to row, and what is painted between them.
use Rattle.std.proofs.Common.{◌≡◌, Bool, true, false, ℕ, suc, ◌+◌, ◌*◌, ◌^◌, ◌<◌, ◌≤◌, inl, inr, ◌==◌, ◌&&◌, ◌||◌, nat_lt, max, min, ⊎_elim, Option, Some, None, is_some, if◌then◌else◌, ℤ, pos, ◌+ℤ◌, ◌*ℤ◌, neg_ℤ, nat_abs, ◌≤ℤ◌, negsuc, refl, sym, ap, ◌∙◌, arith}
use Rattle.std.proofs.lemmas.Bool.{and_left, cases_eq, cases_lt, eq-eqb, ne_eqb, false≢true}
use Rattle.std.proofs.lemmas.Bool.Decides.{nat_tests}
use Rattle.std.proofs.lemmas.Int.{ints}
use Rattle.std.specs.Int.{int_rem_euclid}
use Rattle.std.specs.Option.{option_or}
use Rattle.std.proofs.Math.IntN.{pos-*ℤ-pos, negsuc-*ℤ-pos}
use Rattle.std.proofs.Math.Nat.{mul-le-mul}
use Rattle.wf_geometry.specs.Exact.{plus, difference, product, opposite, quotient, is_less, number_of}
use Rattle.wf_def.specs.declared.color.Color.{Color}
use Rattle.wf_paint.specs.Pixmap.{column_of, row_of}
use Rattle.wf_paint.specs.Canvas.{CanvasValue, painted_at}
use Rattle.wf_paint.specs.Shown.{IsColored, color_where}
use Rattle.wf_geometry.specs.Level.{level, row_level, level_at, is_in_margin}
use Rattle.wf_geometry.specs.Span.{IsSpanOf, is_within, shared}
use Rattle.wf_geometry.specs.Strip.{is_in_strip, AreEnds, IsStripEnd}
use Rattle.wf_paint.specs.RowPart.{most_between, IsRowPart, IsBetween, StaysBetween, IsHiddenBlock}
use Rattle.wf_geometry.specs.declared.row.RowEnds.{RowEnds}
use Rattle.wf_geometry.specs.declared.levels.Levels.{Levels}
use Rattle.wf_geometry.specs.declared.row.Quotient.{Quotient}
use Rattle.wf_geometry.specs.declared.level.Span.{Span}
use Rattle.wf_geometry.specs.Limit.{pixel_side}
use Rattle.wf_geometry.proofs.LineLemmas.{times_sum}
use Rattle.wf_paint.proofs.ColoredLemmas.{IsColored-none, IsColored-either, IsColored-alike, column_within}
use Rattle.wf_geometry.proofs.LevelLemmas.{rising_span}
use Rattle.wf_geometry.proofs.QuotientLemmas.{divided_again}
use Rattle.wf_geometry.proofs.StepsLemmas.{multiples_to}
use Rattle.wf_geometry.proofs.StripLemmas.{sum_kept, one_more, strip_before, strip_after, strip_nowhere}
use Rattle.wf_geometry.proofs.SpanLemmas.{is_within-before, is_within-after, is_within-inside, shared_within}

-- ---- levels

-- from a row to the next one its levels change by one step
level_next : (start change : ℤ) (row : ℕ) → level start change (pos (row + 1)) ≡ plus (level start change (pos row)) change
unfolding level plus product
level_next start change row =
    let more : change *ℤ pos (row + 1) ≡ change *ℤ pos row +ℤ change = omega (arith, ints) in
    omega (arith, ints)

-- ---- the ends of a row's pixels

-- a quotient that tells where a row's pixels end, and is near enough to 0 for the sums that follow
pub record IsEdge (bound start change : ℤ) (step row : ℕ) (q : Quotient) : Type 0 where
  pub ends : IsStripEnd bound start change step row q
  pub within : nat_abs q.whole ≤ (row + 2) * 2 ^ 51

lowered : (n c next bound z change further : ℤ) → plus n (pos 1) ≡ difference bound z → c ≡ opposite change → next ≡ plus n c → further ≡ plus z change →
    plus next (pos 1) ≡ difference bound further
unfolding plus difference opposite
lowered n c next bound z change further first second third fourth = omega (arith, ints)

pub edge_moves : (bound start change : ℤ) (step row : ℕ) (q c next : Quotient) → IsEdge bound start change step row q → number_of step c ≡ opposite change →
    number_of step next ≡ plus (number_of step q) (number_of step c) → next.rest < step → nat_abs next.whole ≤ nat_abs q.whole + 2 ^ 51 →
    IsEdge bound start change step (row + 1) next
edge_moves bound start change step row q c next edge moves sum rest within = record {
  ends = record {
    value = lowered (number_of step q) (number_of step c) (number_of step next) bound (level start change (pos row)) change (level start change (pos (row + 1)))
        edge.ends.value moves sum (level_next start change row);
    rest = rest;
  };
  within = omega (arith, edge.within);
}

-- what a quotient tells about a row of pixels
abbrev pub Counts : Quotient → ℕ → ℕ → Type 0
Counts q most n = (divisor u : ℕ) → q.rest < divisor → u < most → is_less (product (pos divisor) (pos u)) (plus (number_of divisor q) (pos 1)) ≡ nat_lt u n

edge_counts : (bound start change s : ℤ) (step row most n : ℕ) (q : Quotient) → IsStripEnd bound start change step row q → pos step ≡ s → Counts q most n →
    (u : ℕ) → u < most → is_less (product s (pos u)) (difference bound (level start change (pos row))) ≡ nat_lt u n
edge_counts bound start change s step row most n q edge same counts u below =
    ap (λ (z : ℤ). is_less (product z (pos u)) (difference bound (level start change (pos row)))) (sym same)
    ∙ ap (is_less (product (pos step) (pos u))) (sym edge.value)
    ∙ counts step u edge.rest below

pub rising_row : (l : Levels) (margin : ℤ) (step row most : ℕ) (low high : Quotient) (span : Span) → pos step ≡ product (pos pixel_side) l.across →
    IsStripEnd (opposite margin) l.origin (product (pos pixel_side) l.up) step row low → IsStripEnd margin l.origin (product (pos pixel_side) l.up) step row high →
    Counts low most span.from → Counts high most span.to → span.to ≤ most → IsSpanOf (λ u. is_in_margin margin (level_at l u row)) most span
unfolding level_at row_level
rising_row l margin step row most low high span same lower upper from to within =
    rising_span (level l.origin (product (pos pixel_side) l.up) (pos row)) (product (pos pixel_side) l.across) margin most span within
    (edge_counts (opposite margin) l.origin (product (pos pixel_side) l.up) (product (pos pixel_side) l.across) step row most span.from low lower same from)
    (edge_counts margin l.origin (product (pos pixel_side) l.up) (product (pos pixel_side) l.across) step row most span.to high upper same to)

-- a number counts as far as the number after its whole part
counted : (q : Quotient) (n : ℕ) → pos n ≡ plus q.whole (pos 1) → (divisor u : ℕ) → q.rest < divisor →
    is_less (product (pos divisor) (pos u)) (plus (number_of divisor q) (pos 1)) ≡ nat_lt u n
unfolding number_of is_less
counted q n is divisor u rest = multiples_to divisor q.rest u q.whole rest ∙ ap (is_less (pos u)) (sym is)

-- where both bounds lie among the columns, nothing is cut off
pub part_inside : (columns : Span) (low high : Quotient) (from to : ℕ) → pos from ≡ plus low.whole (pos 1) → pos to ≡ plus high.whole (pos 1) →
    columns.from ≤ from → to ≤ columns.to → IsRowPart columns low high (record { from = from; to = to })
part_inside columns low high from to first last after before =
    let begins : max columns.from from ≡ from = omega arith in
    let ends : min columns.to to ≡ to = omega arith in
    record {
      within = record { from = from; to = to };
      to_within = before;
      from = λ divisor u rest below. counted low from first divisor u rest;
      to = λ divisor u rest below. counted high to last divisor u rest;
      value = rw (begins, ends) refl;
    }

-- ---- how far the ends of a row lie apart

raised : (n h w m z : ℤ) → plus n (pos 1) ≡ difference (opposite m) z → h ≡ plus n w → w ≡ plus m m → plus h (pos 1) ≡ difference m z
unfolding plus difference opposite
raised n h w m z first second third = omega (arith, ints)

-- the upper end lies twice the margin further
pub end_beyond : (m start change : ℤ) (step row : ℕ) (low gap high : Quotient) → IsStripEnd (opposite m) start change step row low → number_of step gap ≡ plus m m →
    number_of step high ≡ plus (number_of step low) (number_of step gap) → high.rest < step → IsStripEnd m start change step row high
end_beyond m start change step row low gap high is twice sum rest = record {
  value = raised (number_of step low) (number_of step high) (number_of step gap) m (level start change (pos row)) is.value sum twice;
  rest = rest;
}

pub low_edge : (l : Levels) (row : ℕ) (e : RowEnds) → AreEnds l row e → IsEdge (opposite l.margin) l.origin (product (pos pixel_side) l.up) e.step row e.low
low_edge l row e is = record { ends = is.begins; within = omega (arith, is.near) }

pub high_edge : (l : Levels) (row : ℕ) (e : RowEnds) (high : Quotient) → AreEnds l row e → number_of e.step high ≡ plus (number_of e.step e.low) (number_of e.step e.gap) →
    high.rest < e.step → nat_abs high.whole ≤ nat_abs e.low.whole + 2 ^ 51 → IsEdge l.margin l.origin (product (pos pixel_side) l.up) e.step row high
high_edge l row e high is sum rest within = record {
  ends = end_beyond l.margin l.origin (product (pos pixel_side) l.up) e.step row e.low e.gap high is.begins is.apart sum rest;
  within = omega (arith, is.near, within);
}

-- of another row, whose lower end is known
pub ends_from : (l : Levels) (first row : ℕ) (e : RowEnds) (q : Quotient) → AreEnds l first e → IsStripEnd (opposite l.margin) l.origin (product (pos pixel_side) l.up) e.step row q →
    nat_abs q.whole ≤ (row + 1) * 2 ^ 51 → AreEnds l row (record { low = q; gap = e.gap; change = e.change; step = e.step })
ends_from l first row e q is begins near = record {
  across = is.across;
  most = is.most;
  begins = begins;
  near = near;
  apart = is.apart;
  gap_rest = is.gap_rest;
  wide = is.wide;
  moves = is.moves;
  change_rest = is.change_rest;
  slow = is.slow;
}

lowered_by : (n h m z w : ℤ) → plus n (pos 1) ≡ difference (opposite m) z → plus h (pos 1) ≡ difference m z → w ≡ plus m m → h ≡ plus n w
unfolding plus difference opposite
lowered_by n h m z w first second third = omega (arith, ints)

-- the two ends of a row lie as far apart as those of each other row
ends_apart : (m start change : ℤ) (step row : ℕ) (low gap high : Quotient) → IsStripEnd (opposite m) start change step row low → IsStripEnd m start change step row high →
    number_of step gap ≡ plus m m → number_of step high ≡ plus (number_of step low) (number_of step gap)
ends_apart m start change step row low gap high lower upper twice =
    lowered_by (number_of step low) (number_of step high) m (level start change (pos row)) (number_of step gap) lower.value upper.value twice

-- ---- rows between the first and the last one

numbers : (n m bound here there : ℤ) → plus n (pos 1) ≡ difference bound here → plus m (pos 1) ≡ difference bound there → there ≤ℤ here → n ≤ℤ m
unfolding plus difference
numbers n m bound here there first second lower = omega (arith, ints)

-- of two numbers the lesser has no greater whole part
whole_order : (d r s : ℕ) (v w : ℤ) → s < d → plus (product v (pos d)) (pos r) ≤ℤ plus (product w (pos d)) (pos s) → v ≤ℤ w
unfolding plus product
whole_order d r s (pos a) (pos b) below less = elim (cases_lt a (b + 1)) [
  | inl before ↦ omega (arith, ints)
  | inr after ↦
      let more : (b + 1) * d ≤ a * d = mul-le-mul after (omega arith) in
      absurd (omega (arith, ints, pos-*ℤ-pos a d, pos-*ℤ-pos b d))
]
whole_order d r s (pos a) (negsuc b) below less =
    let some : 1 * d ≤ suc b * d = mul-le-mul (omega arith) (omega arith) in
    absurd (omega (arith, ints, pos-*ℤ-pos a d, negsuc-*ℤ-pos b d))
whole_order d r s (negsuc a) (pos b) below less = omega (arith, ints)
whole_order d r s (negsuc a) (negsuc b) below less = elim (cases_lt a b) [
  | inl before ↦
      let more : (suc a + 1) * d ≤ suc b * d = mul-le-mul (omega arith) (omega arith) in
      absurd (omega (arith, ints, negsuc-*ℤ-pos a d, negsuc-*ℤ-pos b d))
  | inr after ↦ omega (arith, ints)
]

end_order : (bound start change : ℤ) (step a b : ℕ) (p q : Quotient) → IsStripEnd bound start change step a p → IsStripEnd bound start change step b q →
    level start change (pos b) ≤ℤ level start change (pos a) → p.whole ≤ℤ q.whole
unfolding number_of
end_order bound start change step a b p q first second lower =
    whole_order step p.rest q.rest p.whole q.whole second.rest
    (numbers (number_of step p) (number_of step q) bound (level start change (pos a)) (level start change (pos b)) first.value second.value lower)

level_rises : (start : ℤ) (c a b : ℕ) → a ≤ b → level start (pos c) (pos a) ≤ℤ level start (pos c) (pos b)
unfolding level plus product
level_rises start c a b order =
    let more : c * a ≤ c * b = mul-le-mul (omega arith) order in
    omega (arith, ints, pos-*ℤ-pos c a, pos-*ℤ-pos c b)

level_falls : (start : ℤ) (c a b : ℕ) → a ≤ b → level start (negsuc c) (pos b) ≤ℤ level start (negsuc c) (pos a)
unfolding level plus product
level_falls start c a b order =
    let more : suc c * a ≤ suc c * b = mul-le-mul (omega arith) order in
    omega (arith, ints, negsuc-*ℤ-pos c a, negsuc-*ℤ-pos c b)

between_wholes : (columns : Span) (width : ℕ) (p q r : Quotient) → IsBetween columns width p → IsBetween columns width r → p.whole ≤ℤ q.whole → q.whole ≤ℤ r.whole →
    IsBetween columns width q
unfolding plus
between_wholes columns width p q r first last under over = record {
  least = first.least;
  most = first.most;
  from = omega (arith, ints, first.from);
  to = omega (arith, ints, last.to);
}

-- a row's pixels lie in the columns if those of a row before and of one after it do
pub row_between : (bound start change : ℤ) (step first row last width : ℕ) (columns : Span) (p q r : Quotient) → first ≤ row → row ≤ last →
    IsStripEnd bound start change step first p → IsStripEnd bound start change step row q → IsStripEnd bound start change step last r →
    IsBetween columns width p → IsBetween columns width r → IsBetween columns width q
row_between bound start (pos c) step first row last width columns p q r after before begin here end low high =
    between_wholes columns width r q p high low
    (end_order bound start (pos c) step last row r q end here (level_rises start c row last before))
    (end_order bound start (pos c) step row first q p here begin (level_rises start c first row after))
row_between bound start (negsuc c) step first row last width columns p q r after before begin here end low high =
    between_wholes columns width p q r low high
    (end_order bound start (negsuc c) step first row p q begin here (level_falls start c first row after))
    (end_order bound start (negsuc c) step row last q r here end (level_falls start c row last before))

-- ---- rows of a strip

pub strip_row : (l : Levels) (rows columns span : Span) (width row : ℕ) → columns.to ≤ width → rows.from ≤ row → row < rows.to →
    IsSpanOf (λ u. is_in_margin l.margin (level_at l u row)) columns.to span → IsSpanOf (λ u. is_in_strip l rows columns u row) width (shared columns span)
unfolding is_in_strip
strip_row l rows columns span width row within from to levels = record {
  within = omega arith;
  passed = λ u below. ⊎_elim
      (λ before. ap (λ (t : Bool). is_within columns u && (is_within rows row && t)) (levels.passed u before)
      ∙ ap (λ (t : Bool). is_within columns u && (t && is_within span u)) (is_within-inside rows row from to)
      ∙ sym (shared_within columns span u))
      (λ after. and_left (is_within columns u) (is_within rows row && is_in_margin l.margin (level_at l u row)) (is_within-after columns u after)
      ∙ sym (shared_within columns span u ∙ and_left (is_within columns u) (is_within span u) (is_within-after columns u after)))
      (cases_lt u columns.to);
}

-- the pixels between the two ends, where both lie among the columns, are the row's part of the
-- strip
pub wide_row : (l : Levels) (step row count wide from : ℕ) (rows columns : Span) (low high : Quotient) → pos step ≡ product (pos pixel_side) l.across → columns.to ≤ wide →
    rows.from ≤ row → row < rows.to → IsStripEnd (opposite l.margin) l.origin (product (pos pixel_side) l.up) step row low →
    IsStripEnd l.margin l.origin (product (pos pixel_side) l.up) step row high → pos from ≡ plus low.whole (pos 1) → pos (from + count) ≡ plus high.whole (pos 1) →
    columns.from ≤ from → from + count ≤ columns.to → IsSpanOf (λ u. is_in_strip l rows columns u row) wide (record { from = from; to = from + count })
wide_row l step row count wide from rows columns low high same within after before lower upper begins ends first last =
    let part = part_inside columns low high from (from + count) begins ends first last in
    rw part.value (strip_row l rows columns part.within wide row within after before
    (rising_row l l.margin step row columns.to low high part.within same lower upper part.from part.to part.to_within))

-- ---- how many pixels a row has

same_le : (a b : ℤ) → a ≡ b → a ≤ℤ b
same_le a b is = omega (arith, ints)

-- at least as many as the whole part of how far its ends lie apart
pub apart_least : (d : ℕ) (low gap high : Quotient) → high.rest < d → number_of d high ≡ plus (number_of d low) (number_of d gap) → (low.whole +ℤ gap.whole) ≤ℤ high.whole
unfolding number_of
apart_least d low gap high rest sum =
    whole_order d (low.rest + gap.rest) high.rest (low.whole +ℤ gap.whole) high.whole rest
    (same_le _ _ (sum_kept d low.rest gap.rest low.whole gap.whole (low.whole +ℤ gap.whole) refl ∙ sym sum))

raised_by : (x all t r s e d : ℤ) → x +ℤ t ≡ all +ℤ (r +ℤ s) → s ≤ℤ e → d ≡ all +ℤ e → (x +ℤ t) ≤ℤ (d +ℤ r)
raised_by x all t r s e d first second third = omega (arith, ints)

-- and one more if the rests may carry
carried_by : (d r s t e : ℕ) (v w whole : ℤ) → r < d → s ≤ e * d →
    plus (product whole (pos d)) (pos t) ≡ plus (plus (product v (pos d)) (pos r)) (plus (product w (pos d)) (pos s)) → whole ≤ℤ ((v +ℤ w) +ℤ pos e)
unfolding plus product
carried_by d r s t e v w whole below rests sum =
    whole_order d t r whole ((v +ℤ w) +ℤ pos e) below
    (raised_by (whole *ℤ pos d) ((v +ℤ w) *ℤ pos d) (pos t) (pos r) (pos s) (pos e *ℤ pos d) (((v +ℤ w) +ℤ pos e) *ℤ pos d)
    (sum ∙ sym (sum_kept d r s v w (v +ℤ w) refl)) (omega (arith, ints, rests, pos-*ℤ-pos e d)) (times_sum (v +ℤ w) (pos e) (pos d)))

most_carried : (rest d r t : ℕ) (v w whole : ℤ) → r < d → rest < d → pos 1 ≤ℤ w →
    plus (product whole (pos d)) (pos t) ≡ plus (plus (product v (pos d)) (pos r)) (plus (product w (pos d)) (pos rest)) →
    whole ≤ℤ (v +ℤ pos (if rest == 0 then nat_abs w else nat_abs w + 1))
most_carried rest d r t v w whole below under some sum = elim (cases_eq rest 0) [
  | inl none ↦
      let carried : whole ≤ℤ ((v +ℤ w) +ℤ pos 0) = carried_by d r rest t 0 v w whole below (omega arith) sum in
      let most : whole ≤ℤ (v +ℤ pos (nat_abs w)) = omega (arith, ints) in
      rw (eq-eqb rest 0 none) most
  | inr more ↦
      let carried : whole ≤ℤ ((v +ℤ w) +ℤ pos 1) = carried_by d r rest t 1 v w whole below (omega arith) sum in
      let most : whole ≤ℤ (v +ℤ pos (nat_abs w + 1)) = omega (arith, ints) in
      rw (ne_eqb rest 0 more) most
]

pub apart_most : (d : ℕ) (low gap high : Quotient) → low.rest < d → gap.rest < d → pos 1 ≤ℤ gap.whole → number_of d high ≡ plus (number_of d low) (number_of d gap) →
    high.whole ≤ℤ (low.whole +ℤ pos (most_between gap))
unfolding number_of most_between
apart_most d low gap high below under some sum = most_carried gap.rest d low.rest high.rest low.whole gap.whole high.whole below under some sum

-- ---- rows after rows

both_rows : (from middle to v : ℕ) → from ≤ middle → middle ≤ to →
    is_within (record { from = from; to = to }) v ≡ (is_within (record { from = from; to = middle }) v || is_within (record { from = middle; to = to }) v)
unfolding is_within
both_rows from middle to v first second = grind (arith, nat_tests)

spread : (c x y m : Bool) → (c && ((x || y) && m)) ≡ ((c && (x && m)) || (c && (y && m)))
spread false x y m = refl
spread true true y true = refl
spread true true true false = refl
spread true true false false = refl
spread true false true m = refl
spread true false false m = refl

-- a strip is that of its first rows and then that of the others
pub strip_joined : (l : Levels) (columns : Span) (from middle to : ℕ) (color : Color) (a b c : CanvasValue) → from ≤ middle → middle ≤ to →
    IsColored (is_in_strip l (record { from = from; to = middle }) columns) color a b → IsColored (is_in_strip l (record { from = middle; to = to }) columns) color b c →
    IsColored (is_in_strip l (record { from = from; to = to }) columns) color a c
unfolding is_in_strip
strip_joined l columns from middle to color a b c order further before after =
    IsColored-alike (λ column row. is_in_strip l (record { from = from; to = middle }) columns column row || is_in_strip l (record { from = middle; to = to }) columns column row)
    (is_in_strip l (record { from = from; to = to }) columns) color a c
    (λ column row wide high.
    ap (λ (t : Bool). is_within columns column && (t && is_in_margin l.margin (level_at l column row))) (both_rows from middle to row order further)
    ∙ spread (is_within columns column) (is_within (record { from = from; to = middle }) row) (is_within (record { from = middle; to = to }) row) (is_in_margin l.margin (level_at l column row)))
    (IsColored-either (is_in_strip l (record { from = from; to = middle }) columns) (is_in_strip l (record { from = middle; to = to }) columns) color a b c before after)

-- no rows, no pixels
pub strip_none : (l : Levels) (columns : Span) (from to : ℕ) (color : Color) (c : CanvasValue) → to ≤ from →
    IsColored (is_in_strip l (record { from = from; to = to }) columns) color c c
strip_none l columns from to color c empty = IsColored-none (is_in_strip l (record { from = from; to = to }) columns) color c
    (λ column r wide high. strip_nowhere l (record { from = from; to = to }) columns column r empty)

-- ---- sixteen rows at once

leap_level : (start change : ℤ) (row : ℕ) → level start change (pos (row + 16)) ≡ plus (level start change (pos row)) (change *ℤ pos 16)
unfolding level plus product
leap_level start change row =
    let more : change *ℤ pos (row + 16) ≡ change *ℤ pos row +ℤ change *ℤ pos 16 = omega (arith, ints) in
    omega (arith, ints)

leap_change : (up : ℤ) → product (pos (16 * pixel_side)) up ≡ product (pos pixel_side) up *ℤ pos 16
unfolding product
leap_change up = omega (arith, ints)

pub end_leaps : (l : Levels) (bound : ℤ) (row step : ℕ) (q c next : Quotient) → IsStripEnd bound l.origin (product (pos pixel_side) l.up) step row q →
    number_of step c ≡ opposite (product (pos (16 * pixel_side)) l.up) → number_of step next ≡ plus (number_of step q) (number_of step c) → next.rest < step →
    IsStripEnd bound l.origin (product (pos pixel_side) l.up) step (row + 16) next
end_leaps l bound row step q c next is leaps sum rest =
    let change : ℤ = product (pos pixel_side) l.up in
    record {
      value = lowered (number_of step q) (number_of step c) (number_of step next) bound (level l.origin change (pos row)) (change *ℤ pos 16) (level l.origin change (pos (row + 16)))
          is.value (leaps ∙ ap opposite (leap_change l.up)) sum (leap_level l.origin change row);
      rest = rest;
    }

-- the rows from the first one to the one before the last one
pub stays_between : (l : Levels) (step width : ℕ) (rows columns : Span) (low next : Quotient) → IsStripEnd (opposite l.margin) l.origin (product (pos pixel_side) l.up) step rows.from low →
    IsStripEnd (opposite l.margin) l.origin (product (pos pixel_side) l.up) step rows.to next → IsBetween columns width low → IsBetween columns width next →
    StaysBetween l step width rows columns
stays_between l step width rows columns low next begin end first last = record {
  each = λ row after before q here.
      row_between (opposite l.margin) l.origin (product (pos pixel_side) l.up) step rows.from row rows.to width columns low q next after (omega arith) begin here end first last;
}

pub between_all : (columns : Span) (width wide : ℕ) (q : Quotient) → columns.to ≤ wide → IsBetween columns width q → IsBetween (record { from = 0; to = wide }) width q
unfolding plus
between_all columns width wide q most is = record { least = is.least; most = is.most; from = omega (arith, ints, is.from); to = omega (arith, ints, is.to) }

-- ---- hidden rows

rest_kept : (z : ℤ) (n : ℕ) → 0 < n → pos (nat_abs (int_rem_euclid z (pos n))) ≡ int_rem_euclid z (pos n)
rest_kept (pos a) n some = omega (arith, ints)
rest_kept (negsuc a) n some = omega (arith, ints)

rest_below : (z : ℤ) (n : ℕ) → 0 < n → nat_abs (int_rem_euclid z (pos n)) < n
rest_below (pos a) n some = omega (arith, ints)
rest_below (negsuc a) n some = omega (arith, ints)

-- the quotient that tells where the pixels of a row end
abbrev end_at : ℤ → ℤ → ℤ → ℕ → ℕ → Quotient
end_at bound start change step row =
    let room : ℤ = difference (difference bound (level start change (pos row))) (pos 1) in
    record { whole = quotient room (pos step); rest = nat_abs (int_rem_euclid room (pos step)) }

end_exists : (bound start change : ℤ) (step row : ℕ) → 0 < step → IsStripEnd bound start change step row (end_at bound start change step row)
unfolding number_of
end_exists bound start change step row some =
    let here : ℤ = level start change (pos row) in
    let room : ℤ = difference (difference bound here) (pos 1) in
    let rest : plus (product (quotient room (pos step)) (pos step)) (pos (nat_abs (int_rem_euclid room (pos step)))) ≡ room =
    ap (plus (product (quotient room (pos step)) (pos step))) (rest_kept room step some) ∙ divided_again room step some in
    record { value = one_more _ bound here rest; rest = rest_below room step some }

shown_painted : (o : Option Color) (shown : Bool) (color : Color) → (shown ≡ true → is_some o ≡ true) → option_or o (color_where shown color) ≡ o
unfolding color_where
shown_painted None true color painted = absurd (false≢true (painted refl))
shown_painted None false color painted = refl
shown_painted (Some c) shown color painted = refl

in_rows : (l : Levels) (rows columns : Span) (u v : ℕ) → is_in_strip l rows columns u v ≡ true → (rows.from ≤ v) × (v < rows.to)
in_rows l rows columns u v shown = (
  elim (cases_lt v rows.from) [
    | inl before ↦ absurd (false≢true (sym (strip_before l rows columns u v before) ∙ shown))
    | inr from ↦ from
  ],
  elim (cases_lt v rows.to) [
    | inl inside ↦ inside
    | inr after ↦ absurd (false≢true (sym (strip_after l rows columns u v after) ∙ shown))
  ],
)

pub in_span : (span : Span) (u : ℕ) → is_within span u ≡ true → (span.from ≤ u) × (u < span.to)
in_span span u inside = (
  elim (cases_lt u span.from) [
    | inl before ↦ absurd (false≢true (sym (is_within-before span u before) ∙ inside))
    | inr from ↦ from
  ],
  elim (cases_lt u span.to) [
    | inl within ↦ within
    | inr after ↦ absurd (false≢true (sym (is_within-after span u after) ∙ inside))
  ],
)

row_few : (l : Levels) (step row wide from width : ℕ) (g : ℤ) (rows columns : Span) (low high : Quotient) → pos step ≡ product (pos pixel_side) l.across → columns.to ≤ wide →
    rows.from ≤ row → row < rows.to → IsStripEnd (opposite l.margin) l.origin (product (pos pixel_side) l.up) step row low →
    IsStripEnd l.margin l.origin (product (pos pixel_side) l.up) step row high → pos from ≡ plus low.whole (pos 1) → (low.whole +ℤ g) ≤ℤ high.whole → pos 1 ≤ℤ g →
    high.whole ≤ℤ (low.whole +ℤ pos width) → IsBetween columns width low → (u : ℕ) → u < wide → is_in_strip l rows columns u row ≡ true → (from ≤ u) × (u < from + width)
unfolding plus
row_few l step row wide from width g rows columns low high same within after before lower upper begins least some most between u below shown =
    let count : ℕ = nat_abs (high.whole +ℤ neg_ℤ low.whole) in
    let ends : pos (from + count) ≡ high.whole +ℤ pos 1 = omega (arith, ints) in
    let inside = wide_row l step row count wide from rows columns low high same within after before lower upper begins ends
    (omega (arith, ints, between.from)) (omega (arith, ints, between.to)) in
    let spot : (from ≤ u) × (u < from + count) = in_span (record { from = from; to = from + count }) u (sym (inside.passed u below) ∙ shown) in
    (spot.0, omega (arith, ints, spot.1))

-- the pixels of each row are at most `width`, from its lower end on
abbrev pub AreFew : Levels → ℕ → ℕ → ℕ → Span → Span → Type 0
AreFew l step width wide rows columns = (row : ℕ) → rows.from ≤ row → row < rows.to → (q : Quotient) →
    IsStripEnd (opposite l.margin) l.origin (product (pos pixel_side) l.up) step row q → (from u : ℕ) → pos from ≡ plus q.whole (pos 1) → u < wide →
    is_in_strip l rows columns u row ≡ true → (from ≤ u) × (u < from + width)

pub wide_few : (l : Levels) (step wide : ℕ) (gap : Quotient) (rows columns : Span) → pos step ≡ product (pos pixel_side) l.across → columns.to ≤ wide →
    number_of step gap ≡ plus l.margin l.margin → gap.rest < step → pos 1 ≤ℤ gap.whole → StaysBetween l step (most_between gap) rows columns →
    AreFew l step (most_between gap) wide rows columns
unfolding plus
wide_few l step wide gap rows columns same within twice rest some stays row after before q end from u begins below shown =
    let change : ℤ = product (pos pixel_side) l.up in
    let high : Quotient = end_at l.margin l.origin change step row in
    let upper : IsStripEnd l.margin l.origin change step row high = end_exists l.margin l.origin change step row (omega (arith, rest)) in
    let sum : number_of step high ≡ plus (number_of step q) (number_of step gap) = ends_apart l.margin l.origin change step row q gap high end upper twice in
    let between : IsBetween columns (most_between gap) q = stays.each row after before q end in
    let least : (q.whole +ℤ gap.whole) ≤ℤ high.whole = apart_least step q gap high upper.rest sum in
    let most : high.whole ≤ℤ (q.whole +ℤ pos (most_between gap)) = apart_most step q gap high end.rest rest some sum in
    row_few l step row wide from (most_between gap) gap.whole rows columns q high same within after before end upper begins least some most between u below shown

-- where all of a box is painted, nothing is left to do in the rows whose pixels lie in it
pub strip_hidden : (l : Levels) (step width : ℕ) (rows columns : Span) (low next : Quotient) (color : Color) (c : CanvasValue) → 0 < step → rows.to ≡ rows.from + 16 →
    IsStripEnd (opposite l.margin) l.origin (product (pos pixel_side) l.up) step rows.from low → IsStripEnd (opposite l.margin) l.origin (product (pos pixel_side) l.up) step rows.to next →
    AreFew l step width c.width rows columns → IsHiddenBlock rows.from width low next c → IsColored (is_in_strip l rows columns) color c c
unfolding plus
strip_hidden l step width rows columns low next color c some count begin end few hidden = record {
  width = refl;
  height = refl;
  background = refl;
  pixels = λ i within.
      let column : ℕ = column_of c.width i in
      let row : ℕ = row_of c.width c.height i in
      sym (shown_painted (painted_at c i) (is_in_strip l rows columns column row) color (λ shown.
      let inside : (rows.from ≤ row) × (row < rows.to) = in_rows l rows columns column row shown in
      let q : Quotient = end_at (opposite l.margin) l.origin (product (pos pixel_side) l.up) step row in
      let here : IsStripEnd (opposite l.margin) l.origin (product (pos pixel_side) l.up) step row q = end_exists (opposite l.margin) l.origin (product (pos pixel_side) l.up) step row some in
      let between : IsBetween hidden.columns width q = row_between (opposite l.margin) l.origin (product (pos pixel_side) l.up) step rows.from row rows.to width hidden.columns low q next
      inside.0 (omega (arith, inside.1)) begin here end hidden.first hidden.last in
      let from : ℕ = nat_abs (q.whole +ℤ pos 1) in
      let begins : pos from ≡ q.whole +ℤ pos 1 = omega (arith, ints, between.from) in
      let spot : (from ≤ column) × (column < from + width) = few row inside.0 inside.1 q here from column begins (column_within c.width c.height i within) shown in
      hidden.painted.pixels i within inside.0 (omega (arith, inside.1)) (omega (arith, ints, between.from, spot.0)) (omega (arith, ints, between.to, spot.1))));
}
