-- The columns that a walk through a row's sorted reaches covers, and the pixels that the rows of a
-- canvas cover, one after another.
use Rattle.std.proofs.Common.{◌≡◌, ℕ, ◌+◌, ◌-◌, ◌%◌, ◌<◌, ◌≤◌, ◌==◌, ◌&&◌, ◌||◌, Bool, true, false, not, nat_lt, List, length, get_or, pos, refl, sym, ap, ◌∙◌, subst, ⊎_elim, arith}
use Rattle.std.specs.List.{count_by}
use Rattle.std.specs.List.Sorted.{IsNonDecreasing}
use Rattle.std.proofs.lemmas.Bool.{lt-ltb, le-ltb, eq-eqb, ne_eqb, cases_lt, cases_order}
use Rattle.std.proofs.lemmas.Bool.Decides.{nat_tests}
use Rattle.wf_def.specs.declared.color.Color.{Color}
use Rattle.wf_geometry.specs.Position.{centre}
use Rattle.wf_geometry.specs.Coverage.{crosses, is_inside}
use Rattle.wf_paint.specs.Canvas.{CanvasValue}
use Rattle.wf_paint.specs.Shown.{IsColored, is_in_run}
use Rattle.wf_geometry.specs.declared.operation.Segment.{Segment}
use Rattle.wf_paint.proofs.ColoredLemmas.{IsColored-none, IsColored-either, IsColored-alike}
use Rattle.wf_paint.proofs.InsideLemmas.{count_above}

and_false : (b : Bool) → (b && false) ≡ false
and_false true = refl
and_false false = refl

-- ---- tests of one column

-- an odd number of the reaches lies after the column
abbrev pub is_odd_behind : List ℕ → ℕ → Bool
is_odd_behind reaches column = count_by (nat_lt column) reaches % 2 == 1

-- the interval that is covered joins what is covered before it
interval_joined : (same odd : Bool) (column from to : ℕ) → from ≤ to → (from ≤ column → column < to → odd ≡ true) →
    (same && (nat_lt column to && odd)) ≡ ((same && (nat_lt column from && odd)) || (same && (not (nat_lt column from) && nat_lt column to)))
interval_joined false odd column from to order between = refl
interval_joined true odd column from to order between = ⊎_elim
    (λ before. rw (lt-ltb column from before, lt-ltb column to (omega arith)) (or_false odd))
    (λ after. ⊎_elim
    (λ inside. rw (le-ltb column from after, lt-ltb column to inside) (between after inside))
    (λ behind. rw (le-ltb column from after, le-ltb column to behind) refl)
    (cases_lt column to))
    (cases_lt column from)
  where
    or_false : (b : Bool) → b ≡ (b || false)
    or_false true = refl
    or_false false = refl

interval_skipped : (same odd : Bool) (column from to : ℕ) → from ≤ to → (from ≤ column → column < to → odd ≡ false) →
    (same && (nat_lt column to && odd)) ≡ (same && (nat_lt column from && odd))
interval_skipped false odd column from to order between = refl
interval_skipped true odd column from to order between = ⊎_elim
    (λ before. rw (lt-ltb column from before, lt-ltb column to (omega arith)) refl)
    (λ after. ⊎_elim
    (λ inside. rw (le-ltb column from after, lt-ltb column to inside) (between after inside))
    (λ behind. rw (le-ltb column from after, le-ltb column to behind) refl)
    (cases_lt column to))
    (cases_lt column from)

parity_turns : (n k : ℕ) → k < n → ((n - (k + 1)) % 2 == 1) ≡ not ((n - k) % 2 == 1)
parity_turns n k within = grind (arith, nat_tests)

-- ---- the walk

-- the first k reaches are passed, up to `from`, and of the columns before it those with an odd
-- number of reaches after them are covered
pub record IsWalked (row : ℕ) (reaches : List ℕ) (k from : ℕ) (is_covered : Bool) (color : Color) (old new : CanvasValue) : Type 0 where
  pub colored : IsColored (λ column r. (r == row) && (nat_lt column from && is_odd_behind reaches column)) color old new
  pub parity : is_covered ≡ ((length reaches - k) % 2 == 1)
  pub passed : (j : ℕ) → j < k → get_or reaches j 0 ≤ from
  pub ahead : (j : ℕ) → k ≤ j → j < length reaches → from ≤ get_or reaches j 0

pub walked_start : (row : ℕ) (reaches : List ℕ) (color : Color) (c : CanvasValue) → IsWalked row reaches 0 0 (length reaches % 2 == 1) color c c
walked_start row reaches color c = record {
  colored = IsColored-none (λ column r. (r == row) && (nat_lt column 0 && is_odd_behind reaches column)) color c
      (λ column r wide high. rw (le-ltb column 0 (omega arith)) (and_false (r == row)));
  parity = ap (λ (n : ℕ). n % 2 == 1) (omega arith);
  passed = λ j none. absurd (omega arith);
  ahead = λ j first within. omega arith;
}

module _ (row : ℕ) (reaches : List ℕ) (k from : ℕ) (is_covered : Bool) (color : Color) (a b : CanvasValue) (walked : IsWalked row reaches k from is_covered color a b) (sorted : IsNonDecreasing reaches) (here : k < length reaches) where
  odd_between : (column : ℕ) → from ≤ column → column < get_or reaches k 0 → is_odd_behind reaches column ≡ is_covered
  odd_between column after before =
      ap (λ (n : ℕ). n % 2 == 1) (count_above reaches k column (λ j earlier. omega (arith, walked.passed j earlier)) (λ j later within. omega (arith, sorted k j 0 later within)))
      ∙ sym walked.parity

  pub walked_covered : (c : CanvasValue) → is_covered ≡ true → IsColored (is_in_run row from (get_or reaches k 0)) color b c → IsWalked row reaches (k + 1) (get_or reaches k 0) (not is_covered) color a c
  unfolding is_in_run
  walked_covered c covered run = record {
    colored = IsColored-alike _ (λ column r. (r == row) && (nat_lt column (get_or reaches k 0) && is_odd_behind reaches column)) color a c
        (λ column r wide high. interval_joined (r == row) (is_odd_behind reaches column) column from (get_or reaches k 0) (walked.ahead k (omega arith) here) (λ after before. odd_between column after before ∙ covered))
        (IsColored-either (λ column r. (r == row) && (nat_lt column from && is_odd_behind reaches column)) (is_in_run row from (get_or reaches k 0)) color a b c walked.colored run);
    parity = ap not walked.parity ∙ sym (parity_turns (length reaches) k here);
    passed = λ j earlier. sorted j k 0 (omega arith) here;
    ahead = λ j later within. sorted k j 0 (omega arith) within;
  }

  pub walked_skipped : is_covered ≡ false → IsWalked row reaches (k + 1) (get_or reaches k 0) (not is_covered) color a b
  walked_skipped left = record {
    colored = IsColored-alike (λ column r. (r == row) && (nat_lt column from && is_odd_behind reaches column)) (λ column r. (r == row) && (nat_lt column (get_or reaches k 0) && is_odd_behind reaches column)) color a b
        (λ column r wide high. interval_skipped (r == row) (is_odd_behind reaches column) column from (get_or reaches k 0) (walked.ahead k (omega arith) here) (λ after before. odd_between column after before ∙ left))
        walked.colored;
    parity = ap not walked.parity ∙ sym (parity_turns (length reaches) k here);
    passed = λ j earlier. sorted j k 0 (omega arith) here;
    ahead = λ j later within. sorted k j 0 (omega arith) within;
  }

last_even : (n k : ℕ) → n ≤ k → ((n - k) % 2 == 1) ≡ false
last_even n k all = let none : n - k ≡ 0 = omega arith in ap (λ (m : ℕ). m % 2 == 1) none

-- no reach is left after the last one
pub walked_all : (row : ℕ) (reaches : List ℕ) (k from : ℕ) (is_covered : Bool) (color : Color) (a b : CanvasValue) → length reaches ≤ k → IsWalked row reaches k from is_covered color a b →
    IsColored (λ column r. (r == row) && is_odd_behind reaches column) color a b
walked_all row reaches k from is_covered color a b all walked =
    IsColored-alike (λ column r. (r == row) && (nat_lt column from && is_odd_behind reaches column)) (λ column r. (r == row) && is_odd_behind reaches column) color a b
    (λ column r wide high. ap (λ (t : Bool). (r == row) && t) (⊎_elim
    (λ before. rw (lt-ltb column from before) refl)
    (λ after. rw (le-ltb column from after) (none_behind column after))
    (cases_lt column from)))
    walked.colored
  where
    none_behind : (column : ℕ) → from ≤ column → is_odd_behind reaches column ≡ false
    none_behind column after =
        ap (λ (n : ℕ). n % 2 == 1) (count_above reaches k column (λ j earlier. omega (arith, walked.passed j earlier)) (λ j later within. absurd (omega arith)))
        ∙ last_even (length reaches) k all

-- ---- a row

pub row_filled : (row width : ℕ) (edges : List Segment) (reaches sorted : List ℕ) (color : Color) (a b : CanvasValue) → a.width ≡ width →
    ((u : ℕ) → u < width → count_by (nat_lt u) reaches ≡ count_by (crosses (centre (pos u) (pos row))) edges) →
    ((u : ℕ) → count_by (nat_lt u) sorted % 2 ≡ count_by (nat_lt u) reaches % 2) →
    IsColored (λ column r. (r == row) && is_odd_behind sorted column) color a b →
    IsColored (λ column r. (r == row) && is_inside (centre (pos column) (pos row)) edges) color a b
unfolding is_inside
row_filled row width edges reaches sorted color a b wide count parity colored =
    IsColored-alike (λ column r. (r == row) && is_odd_behind sorted column) (λ column r. (r == row) && is_inside (centre (pos column) (pos row)) edges) color a b
    (λ column r within high. ap (λ (n : ℕ). (r == row) && (n == 1)) (ap (λ (n : ℕ). n % 2) (sym (count column (omega arith))) ∙ sym (parity column)))
    colored

-- ---- rows one after another

row_joined : (test : ℕ → Bool) (r row : ℕ) → (nat_lt r (row + 1) && test r) ≡ ((nat_lt r row && test r) || ((r == row) && test row))
row_joined test r row = ⊎_elim
    (λ same. subst (λ (q : ℕ). (nat_lt r (q + 1) && test r) ≡ ((nat_lt r q && test r) || ((r == q) && test q))) same
    (rw (lt-ltb r (r + 1) (omega arith), le-ltb r r (omega arith), eq-eqb r r refl) refl))
    (λ apart. ⊎_elim
    (λ before. rw (lt-ltb r (row + 1) (omega arith), lt-ltb r row before, ne_eqb r row (λ e. absurd (omega arith))) (or_false (test r)))
    (λ after. rw (le-ltb r (row + 1) (omega arith), le-ltb r row (omega arith), ne_eqb r row (λ e. absurd (omega arith))) refl)
    apart)
    (cases_order r row)
  where
    or_false : (b : Bool) → b ≡ (b || false)
    or_false true = refl
    or_false false = refl

-- the inside of the edges in the rows below one
abbrev pub is_inside_below : List Segment → ℕ → ℕ → ℕ → Bool
is_inside_below edges row column r = nat_lt r row && is_inside (centre (pos column) (pos r)) edges

pub rows_none : (edges : List Segment) (row : ℕ) (color : Color) (c : CanvasValue) →
    ((column r : ℕ) → r < c.height → r < row → is_inside (centre (pos column) (pos r)) edges ≡ false) → IsColored (is_inside_below edges row) color c c
rows_none edges row color c none = IsColored-none (is_inside_below edges row) color c
    (λ column r wide high. ⊎_elim
    (λ before. rw (lt-ltb r row before) (none column r high before))
    (λ after. rw (le-ltb r row after) refl)
    (cases_lt r row))

pub rows_more : (edges : List Segment) (row : ℕ) (color : Color) (a b c : CanvasValue) → IsColored (is_inside_below edges row) color a b →
    IsColored (λ column r. (r == row) && is_inside (centre (pos column) (pos row)) edges) color b c → IsColored (is_inside_below edges (row + 1)) color a c
rows_more edges row color a b c before next =
    IsColored-alike (λ column r. is_inside_below edges row column r || ((r == row) && is_inside (centre (pos column) (pos row)) edges)) (is_inside_below edges (row + 1)) color a c
    (λ column r wide high. row_joined (λ q. is_inside (centre (pos column) (pos q)) edges) r row)
    (IsColored-either (is_inside_below edges row) (λ column r. (r == row) && is_inside (centre (pos column) (pos row)) edges) color a b c before next)

pub rows_all : (edges : List Segment) (row : ℕ) (color : Color) (a b : CanvasValue) →
    ((column r : ℕ) → r < a.height → row ≤ r → is_inside (centre (pos column) (pos r)) edges ≡ false) → IsColored (is_inside_below edges row) color a b →
    IsColored (λ column r. is_inside (centre (pos column) (pos r)) edges) color a b
rows_all edges row color a b none colored =
    IsColored-alike (is_inside_below edges row) (λ column r. is_inside (centre (pos column) (pos r)) edges) color a b
    (λ column r wide high. ⊎_elim
    (λ before. rw (lt-ltb r row before) refl)
    (λ after. rw (le-ltb r row after) (none column r high after))
    (cases_lt r row))
    colored
