-- Spans of pixels, and boxes of columns and rows.
use Rattle.std.proofs.Common.{◌≡◌, Bool, true, false, ℕ, ◌<◌, ◌≤◌, ◌&&◌, not, nat_lt, ⊎_elim, pos, sym, ap, ◌∙◌, arith}
use Rattle.std.proofs.lemmas.Bool.{false≢true, cases_lt}
use Rattle.std.proofs.lemmas.Bool.Decides.{nat_tests}
use Rattle.wf_geometry.specs.Position.{PositionValue}
use Rattle.wf_geometry.specs.Square.{is_in_span, is_in_square}
use Rattle.wf_geometry.specs.Span.{IsSpanOf, is_within, shared}
use Rattle.wf_geometry.specs.declared.level.Span.{Span}

-- ---- spans

before_from : (from to u : ℕ) → u < from → (not (nat_lt u from) && nat_lt u to) ≡ false
before_from from to u before = grind (arith, nat_tests)

after_to : (from to u : ℕ) → to ≤ u → (not (nat_lt u from) && nat_lt u to) ≡ false
after_to from to u after = grind (arith, nat_tests)

inside_both : (from to u : ℕ) → from ≤ u → u < to → (not (nat_lt u from) && nat_lt u to) ≡ true
inside_both from to u after before = grind (arith, nat_tests)

module _ (span : Span) (u : ℕ) where
  pub is_within-before : u < span.from → is_within span u ≡ false
  unfolding is_within
  is_within-before before = before_from span.from span.to u before

  pub is_within-after : span.to ≤ u → is_within span u ≡ false
  unfolding is_within
  is_within-after after = after_to span.from span.to u after

  pub is_within-inside : span.from ≤ u → u < span.to → is_within span u ≡ true
  unfolding is_within
  is_within-inside from to = inside_both span.from span.to u from to

  -- where none before the span and none after it passes the test, none outside it does
  pub outside_none : (test : ℕ → Bool) → (u < span.from → test u ≡ false) → (span.to ≤ u → test u ≡ false) → is_within span u ≡ false → test u ≡ false
  outside_none test before after out = ⊎_elim before
      (λ from. ⊎_elim (λ to. absurd (false≢true (sym out ∙ is_within-inside from to))) after (cases_lt u span.to))
      (cases_lt u span.from)

-- the tests that give the ends of a span
pub IsSpanOf-ends : (low high test : ℕ → Bool) (most : ℕ) (span : Span) → span.to ≤ most →
    ((u : ℕ) → u < most → low u ≡ nat_lt u span.from) → ((u : ℕ) → u < most → high u ≡ nat_lt u span.to) →
    ((u : ℕ) → test u ≡ (not (low u) && high u)) → IsSpanOf test most span
unfolding is_within
IsSpanOf-ends low high test most span within from to tests = record {
  within = within;
  passed = λ u below. tests u ∙ ap (λ (b : Bool). not b && high u) (from u below) ∙ ap (λ (b : Bool). not (nat_lt u span.from) && b) (to u below);
}

flipped : (a b : Bool) → (not (not b) && not a) ≡ (not a && b)
flipped true b = grind arith
flipped false b = grind arith

-- the same for tests that hold from the ends on
pub IsSpanOf-ends_from : (low high test : ℕ → Bool) (most : ℕ) (span : Span) → span.to ≤ most →
    ((u : ℕ) → u < most → low u ≡ not (nat_lt u span.to)) → ((u : ℕ) → u < most → high u ≡ not (nat_lt u span.from)) →
    ((u : ℕ) → test u ≡ (not (low u) && high u)) → IsSpanOf test most span
unfolding is_within
IsSpanOf-ends_from low high test most span within to from tests = record {
  within = within;
  passed = λ u below. tests u ∙ ap (λ (b : Bool). not b && high u) (to u below) ∙ ap (λ (b : Bool). not (not (nat_lt u span.to)) && b) (from u below)
      ∙ flipped (nat_lt u span.from) (nat_lt u span.to);
}

all_in : (most u : ℕ) → u < most → (not (nat_lt u 0) && nat_lt u most) ≡ true
all_in most u below = grind (arith, nat_tests)

none_in : (u : ℕ) → (not (nat_lt u 0) && nat_lt u 0) ≡ false
none_in u = grind (arith, nat_tests)

abbrev pub whole : ℕ → Span
whole most = record { from = 0; to = most }

pub IsSpanOf-all : (test : ℕ → Bool) (most : ℕ) → ((u : ℕ) → test u ≡ true) → IsSpanOf test most (whole most)
unfolding is_within
IsSpanOf-all test most all = record { within = omega arith; passed = λ u below. all u ∙ sym (all_in most u below) }

pub IsSpanOf-none : (test : ℕ → Bool) (most : ℕ) → ((u : ℕ) → test u ≡ false) → IsSpanOf test most (whole 0)
unfolding is_within
IsSpanOf-none test most none = record { within = omega arith; passed = λ u below. none u ∙ sym (none_in u) }

-- ---- two spans

pub shared_within : (a b : Span) (u : ℕ) → is_within (shared a b) u ≡ (is_within a u && is_within b u)
unfolding is_within
shared_within a b u = grind (arith, nat_tests)

-- a number passes both tests where it is in both spans
pub IsSpanOf-both : (f g : ℕ → Bool) (most : ℕ) (a b : Span) → IsSpanOf f most a → IsSpanOf g most b → IsSpanOf (λ u. f u && g u) most (shared a b)
IsSpanOf-both f g most a b first second = record {
  within = omega (arith, first.within);
  passed = λ u below. let one = first.passed u below in let other = second.passed u below in let each = shared_within a b u in cc;
}

-- ---- boxes of columns and rows

box_before : (columns rows : Span) (column row : ℕ) → row < rows.from → (is_within columns column && is_within rows row) ≡ false
unfolding is_within
box_before columns rows column row before = grind (arith, nat_tests)

box_after : (columns rows : Span) (column row : ℕ) → rows.to ≤ row → (is_within columns column && is_within rows row) ≡ false
unfolding is_within
box_after columns rows column row after = grind (arith, nat_tests)

-- in one of its rows a box is its columns
box_row : (columns rows : Span) (most row : ℕ) → columns.to ≤ most → rows.from ≤ row → row < rows.to →
    IsSpanOf (λ u. is_within columns u && is_within rows row) most columns
unfolding is_within
box_row columns rows most row within from to = record { within = within; passed = λ u below. grind (arith, nat_tests) }

-- a square is the box of its columns and rows
square_same : (size : ℕ) (p : PositionValue) (width height : ℕ) (columns rows : Span) →
    IsSpanOf (λ u. is_in_span size p.x (pos u)) width columns → IsSpanOf (λ u. is_in_span size p.y (pos u)) height rows →
    (column row : ℕ) → column < width → row < height → is_in_square size p (pos column) (pos row) ≡ (is_within columns column && is_within rows row)
unfolding is_in_square
square_same size p width height columns rows across up column row wide high =
    let x = across.passed column wide in
    let y = up.passed row high in
    cc

module _ (size : ℕ) (p : PositionValue) (width height : ℕ) (columns rows : Span) (across : IsSpanOf (λ u. is_in_span size p.x (pos u)) width columns) (up : IsSpanOf (λ u. is_in_span size p.y (pos u)) height rows) where
  pub square_before : (column row : ℕ) → column < width → row < height → row < rows.from → is_in_square size p (pos column) (pos row) ≡ false
  square_before column row wide high before = square_same size p width height columns rows across up column row wide high ∙ box_before columns rows column row before

  pub square_after : (column row : ℕ) → column < width → row < height → rows.to ≤ row → is_in_square size p (pos column) (pos row) ≡ false
  square_after column row wide high after = square_same size p width height columns rows across up column row wide high ∙ box_after columns rows column row after

  -- in one of its rows a square is its columns
  pub square_row : (row : ℕ) → rows.from ≤ row → row < rows.to → IsSpanOf (λ u. is_in_square size p (pos u) (pos row)) width columns
  square_row row from to =
      let box = box_row columns rows width row across.within from to in
      record {
        within = across.within;
        passed = λ u below. square_same size p width height columns rows across up u row below (omega (arith, up.within)) ∙ box.passed u below;
      }
