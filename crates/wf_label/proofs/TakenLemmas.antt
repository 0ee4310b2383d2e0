-- Boxes of labels overlap exactly where they have a pixel of the view in common.
use Rattle.std.proofs.Common.{◌≡◌, ℕ, ◌+◌, ◌-◌, ◌*◌, ◌<◌, ◌≤◌, ◌==◌, max, Bool, true, false, not, ◌&&◌, ◌||◌, List, [], ◌∷◌, ◌++◌, length, ℤ, pos, nat_abs, inl, inr, refl, sym, ap, ◌∙◌, arith}
use Rattle.std.specs.Prelude.{nat_le, nat_lt}
use Rattle.std.proofs.Common.{◌⊎◌, replicate, take}
use Rattle.std.proofs.lemmas.List.{length-replicate, map_push, take_at}
use Rattle.wf_label.proofs.ColoredLemmas.{in_rows, run_in_row, between_cuts}
use Rattle.std.proofs.lemmas.Bool.{cases_eq, leb-true, ltb-true, le-leb, lt-ltb, and_from, and_parts, or_cases, or_left, or_right, or_parts, or_from, both_ways, not-true, false≢true}
use Rattle.std.proofs.lemmas.Bool.Decides.{nat_tests}
use Rattle.std.proofs.lemmas.Int.{ints}
use Rattle.std.proofs.lemmas.List.Elements.{All-head, All-tail, All-push}
use Rattle.std.specs.List.{All, list_any}
use Rattle.wf_geometry.specs.Exact.{plus, difference, is_less}
use Rattle.wf_geometry.specs.View.{ViewValue}
use Rattle.wf_label.specs.Colored.{IsCutBefore, is_between, is_in}
use Rattle.wf_label.specs.PixelBox.{box_of, is_whole_in, overlap, spans_overlap, widen}
use Rattle.wf_label.specs.Placed.{PlacedValue, placed_value, placed_values}
use Rattle.wf_label.specs.declared.placed.Placed.{Placed}
use Rattle.wf_label.specs.Taken.{IsSolid, LiesInView, IsTaken, IsMet, IsMarkedWithin, is_taken, is_marked, words_for}
use Rattle.wf_label.proofs.MarkLemmas.{none_at}
use Rattle.wf_label.specs.declared.placed.PixelBox.{PixelBox}

-- ---- two boxes

-- on one axis, a pixel of the view that is in both spans
record IsCommon (a b c d : ℤ) (width : ℕ) : Type 0 where
  pixel : ℕ
  within : pixel < width
  first : is_between a b pixel ≡ true
  second : is_between c d pixel ≡ true

common_pixel : (a b c d : ℤ) (width : ℕ) → is_less a b ≡ true → is_less c d ≡ true → spans_overlap a b c d ≡ true → is_less c (pos 0) ≡ false → is_less (pos width) d ≡ false →
    IsCommon a b c d width
unfolding spans_overlap is_between is_less
common_pixel a b c d width wide solid meets low high = by_test (is_less c a) refl where
  by_test : (t : Bool) → is_less c a ≡ t → IsCommon a b c d width
  by_test true less = record { pixel = nat_abs a; within = grind (arith, ints); first = grind (arith, ints); second = grind (arith, ints) }
  by_test false from = record { pixel = nat_abs c; within = grind (arith, ints); first = grind (arith, ints); second = grind (arith, ints) }

spans_meet : (a b c d : ℤ) (k : ℕ) → is_between a b k ≡ true → is_between c d k ≡ true → spans_overlap a b c d ≡ true
unfolding spans_overlap is_between is_less
spans_meet a b c d k first second = grind (arith, ints)

-- what a box that lies whole in the view means for each side
record IsWithin (view : ViewValue) (f : PixelBox) : Type 0 where
  left : is_less f.left (pos 0) ≡ false
  right : is_less (pos view.width) f.right ≡ false
  bottom : is_less f.bottom (pos 0) ≡ false
  top : is_less (pos view.height) f.top ≡ false

within_from : (view : ViewValue) (f : PixelBox) → is_whole_in view f ≡ true → IsWithin view f
unfolding is_whole_in
within_from view f whole =
    let three = and_parts (not (is_less f.left (pos 0)) && not (is_less (pos view.width) f.right) && not (is_less f.bottom (pos 0))) (not (is_less (pos view.height) f.top)) whole in
    let two = and_parts (not (is_less f.left (pos 0)) && not (is_less (pos view.width) f.right)) (not (is_less f.bottom (pos 0))) three.0 in
    let one = and_parts (not (is_less f.left (pos 0))) (not (is_less (pos view.width) f.right)) two.0 in
    record { left = not-true _ one.0; right = not-true _ one.1; bottom = not-true _ two.1; top = not-true _ three.1 }

-- boxes that overlap have a pixel of the view in common, where one of them lies whole in it
record IsShared (view : ViewValue) (f g : PixelBox) : Type 0 where
  column : ℕ
  row : ℕ
  wide : column < view.width
  high : row < view.height
  first : is_in f column row ≡ true
  second : is_in g column row ≡ true

shared_pixel : (view : ViewValue) (f g : PixelBox) → IsSolid f → IsSolid g → is_whole_in view g ≡ true → overlap f g ≡ true → IsShared view f g
unfolding overlap is_in
shared_pixel view f g solid also whole meets =
    let both = and_parts (spans_overlap f.left f.right g.left g.right) (spans_overlap f.bottom f.top g.bottom g.top) meets in
    let sides = within_from view g whole in
    let x = common_pixel f.left f.right g.left g.right view.width solid.wide also.wide both.0 sides.left sides.right in
    let y = common_pixel f.bottom f.top g.bottom g.top view.height solid.high also.high both.1 sides.bottom sides.top in
    record { column = x.pixel; row = y.pixel; wide = x.within; high = y.within; first = and_from _ _ x.first y.first; second = and_from _ _ x.second y.second }

pixel_meets : (f g : PixelBox) (k m : ℕ) → is_in f k m ≡ true → is_in g k m ≡ true → overlap f g ≡ true
unfolding overlap is_in
pixel_meets f g k m here there =
    let one = and_parts (is_between f.left f.right k) (is_between f.bottom f.top m) here in
    let two = and_parts (is_between g.left g.right k) (is_between g.bottom g.top m) there in
    and_from _ _ (spans_meet f.left f.right g.left g.right k one.0 two.0) (spans_meet f.bottom f.top g.bottom g.top m one.1 two.1)

moved_apart : (n : ℕ) (a b : ℤ) → is_less a b ≡ true → is_less (difference a (pos n)) (plus b (pos n)) ≡ true
unfolding is_less difference plus
moved_apart n a b less = grind (arith, ints)

pub widened_solid : (by : ℕ) (f : PixelBox) → IsSolid f → IsSolid (widen by f)
unfolding widen
widened_solid by f solid = record { wide = moved_apart by f.left f.right solid.wide; high = moved_apart by f.bottom f.top solid.high }

-- ---- a box and those of labels

abbrev meets_one : PixelBox → List PlacedValue → Bool
meets_one f placed = list_any (λ other. overlap f (box_of other)) placed

-- the box doesn't overlap a label's box of which it holds no pixel of the view
one_apart : (view : ViewValue) (f : PixelBox) (o : PlacedValue) → IsSolid f → LiesInView view o →
    ((k m : ℕ) → k < view.width → m < view.height → is_in f k m ≡ true → is_in (box_of o) k m ≡ false) → overlap f (box_of o) ≡ false
one_apart view f o solid shown free = by_test (overlap f (box_of o)) refl where
  by_test : (t : Bool) → overlap f (box_of o) ≡ t → t ≡ false
  by_test true meets =
      let at = shared_pixel view f (box_of o) solid shown.solid shown.whole meets in
      absurd (both_ways _ (free at.column at.row at.wide at.high at.first) at.second)
  by_test false apart = refl

-- a box in which no pixel of the view is taken overlaps no label's box
none_met : (view : ViewValue) (f : PixelBox) (placed : List PlacedValue) → IsSolid f → All (LiesInView view) placed →
    ((k m : ℕ) → k < view.width → m < view.height → is_in f k m ≡ true → is_taken placed k m ≡ false) → meets_one f placed ≡ false
unfolding is_taken
none_met view f [] solid shown free = refl
none_met view f (o ∷ placed) solid shown free =
    or_from _ _ (one_apart view f o solid (All-head (LiesInView view) o placed shown) (λ k m wide high inside. (or_parts _ _ (free k m wide high inside)).0))
    (none_met view f placed solid (All-tail (LiesInView view) o placed shown) (λ k m wide high inside. (or_parts _ _ (free k m wide high inside)).1))

-- a box in which a pixel is taken overlaps a label's box
some_met : (f : PixelBox) (placed : List PlacedValue) (k m : ℕ) → is_in f k m ≡ true → is_taken placed k m ≡ true → meets_one f placed ≡ true
unfolding is_taken
some_met f [] k m inside taken = absurd (false≢true taken)
some_met f (o ∷ placed) k m inside taken = elim (or_cases (is_in (box_of o) k m) (is_taken placed k m) taken) [
  | inl here ↦ or_left (overlap f (box_of o)) (meets_one f placed) (pixel_meets f (box_of o) k m inside here)
  | inr later ↦ or_right (overlap f (box_of o)) (meets_one f placed) (some_met f placed k m inside later)
]

module _ (view : ViewValue) (f : PixelBox) (placed : List PlacedValue) (marks : List ℕ) (solid : IsSolid f) (taken : IsTaken view placed marks) where
  pub free_meets : ((k m : ℕ) → k < view.width → m < view.height → is_in f k m ≡ true → is_marked marks (m * view.width + k) ≡ false) → false ≡ meets_one f placed
  free_meets free = sym (none_met view f placed solid taken.shown (λ k m wide high inside. sym (taken.each k m wide high) ∙ free k m wide high inside))

  pub met_meets : IsMet view f marks → true ≡ meets_one f placed
  met_meets met = sym (some_met f placed met.column met.row met.inside (sym (taken.each met.column met.row met.wide met.high) ∙ met.marked))

  -- either way
  pub meets_is : (met : Bool) → (met ≡ false → (k m : ℕ) → k < view.width → m < view.height → is_in f k m ≡ true → is_marked marks (m * view.width + k) ≡ false) →
      (met ≡ true → IsMet view f marks) → met ≡ meets_one f placed
  meets_is true free met = met_meets (met refl)
  meets_is false free met = free_meets (free refl)

-- ---- indices marked

-- ---- rows marked

module _ (f : PixelBox) (left right bottom top width height : ℕ) (begins : IsCutBefore width left f.left) (ends : IsCutBefore width right f.right) (most : right ≤ width) where
  -- one row more is marked
  pub row_marked : (row k m : ℕ) (new before old : Bool) → bottom ≤ row → k < width → before ≡ (in_rows f bottom row k m || old) →
      new ≡ ((nat_le (row * width + left) (m * width + k) && nat_lt (m * width + k) (row * width + right)) || before) → new ≡ (in_rows f bottom (row + 1) k m || old)
  row_marked row k m new before old above inside so_far is =
      let there = between_cuts width left right f.left f.right k begins ends inside in
      is ∙ rw (run_in_row m k row width left right inside most, so_far, there) (by_row (nat_le left k && nat_lt k right)) where
        by_row : (t : Bool) → ((m == row && t) || ((t && (nat_le bottom m && nat_lt m row)) || old)) ≡ ((t && (nat_le bottom m && nat_lt m (row + 1))) || old)
        by_row t = grind (arith, nat_tests)

  -- one row more isn't
  pub row_free : (marks : List ℕ) (row : ℕ) → bottom ≤ row →
      ((n : ℕ) → row * width + left ≤ n → n < row * width + right → is_marked marks n ≡ false) →
      ((k m : ℕ) → k < width → m < height → in_rows f bottom row k m ≡ true → is_marked marks (m * width + k) ≡ false) →
      (k m : ℕ) → k < width → m < height → in_rows f bottom (row + 1) k m ≡ true → is_marked marks (m * width + k) ≡ false
  row_free marks row above here so_far k m inside high in_it = by_row (cases_eq m row) where
    there : is_between f.left f.right k ≡ (nat_le left k && nat_lt k right)
    there = between_cuts width left right f.left f.right k begins ends inside

    both : (is_between f.left f.right k ≡ true) × ((nat_le bottom m && nat_lt m (row + 1)) ≡ true)
    both = and_parts (is_between f.left f.right k) (nat_le bottom m && nat_lt m (row + 1)) in_it

    by_row : ((m ≡ row) ⊎ (m ≡ row → ⊥)) → is_marked marks (m * width + k) ≡ false
    by_row (inl same) =
        let sides = and_parts (nat_le left k) (nat_lt k right) (sym there ∙ both.0) in
        let from : left ≤ k = leb-true left k sides.0 in
        let before : k < right = ltb-true k right sides.1 in
        let line : m * width ≡ row * width = ap (λ (n : ℕ). n * width) same in
        here (m * width + k) (omega arith) (omega arith)
    by_row (inr apart) =
        let rows : (nat_le bottom m && nat_lt m row) ≡ true = grind (arith, nat_tests, both.1) in
        so_far k m inside high (and_from (is_between f.left f.right k) (nat_le bottom m && nat_lt m row) both.0 rows)

module _ (f : PixelBox) (bottom top width height : ℕ) (low : IsCutBefore height bottom f.bottom) (high : IsCutBefore height top f.top) where
  pub rows_are_in : (row k m : ℕ) → row ≡ max top bottom → m < height → is_in f k m ≡ in_rows f bottom row k m
  unfolding is_in
  rows_are_in row k m last within =
      let up : (nat_le bottom m && nat_lt m top) ≡ (nat_le bottom m && nat_lt m row) = grind (arith, nat_tests) in
      ap (λ (there : Bool). is_between f.left f.right k && there) (between_cuts height bottom top f.bottom f.top m low high within ∙ up)

-- a marked index in a row of the box is a pixel that the box overlaps
pub row_met : (view : ViewValue) (f : PixelBox) (marks : List ℕ) (left right bottom top row : ℕ) → IsCutBefore view.width left f.left → IsCutBefore view.width right f.right → IsCutBefore view.height bottom f.bottom → IsCutBefore view.height top f.top →
    right ≤ view.width → top ≤ view.height → bottom ≤ row → row < top → IsMarkedWithin marks (row * view.width + left) (row * view.width + right) → IsMet view f marks
unfolding is_in
row_met view f marks left right bottom top row begins ends low high wide tall above below at =
    let k = at.index - row * view.width in
    let split : row * view.width + k ≡ at.index = omega (arith, at.from) in
    let from : left ≤ k = omega (arith, at.from) in
    let before : k < right = omega (arith, at.before, at.from) in
    let inside : k < view.width = omega arith in
    let within : row < view.height = omega arith in
    record {
      column = k;
      row = row;
      wide = inside;
      high = within;
      inside = and_from _ _
          (between_cuts view.width left right f.left f.right k begins ends inside ∙ and_from _ _ (le-leb left k from) (lt-ltb k right before))
          (between_cuts view.height bottom top f.bottom f.top row low high within ∙ and_from _ _ (le-leb bottom row above) (lt-ltb row top below));
      marked = ap (is_marked marks) split ∙ at.marked;
    }

-- ---- labels placed

-- no label takes a pixel
pub IsTaken-none : (view : ViewValue) (marks : List ℕ) → marks ≡ replicate (words_for (view.width * view.height)) 0 → IsTaken view [] marks
unfolding is_taken
IsTaken-none view marks zeros = record {
  size = ap length zeros ∙ length-replicate (words_for (view.width * view.height)) 0;
  shown = λ k d within. absurd (omega arith);
  each = λ k m wide high. none_at marks (words_for (view.width * view.height)) (m * view.width + k) zeros;
}

taken-push : (placed : List PlacedValue) (label : PlacedValue) (k m : ℕ) → is_taken (placed ++ label ∷ []) k m ≡ (is_in (box_of label) k m || is_taken placed k m)
unfolding is_taken
taken-push [] label k m = refl
taken-push (o ∷ placed) label k m = ap (λ (t : Bool). is_in (box_of o) k m || t) (taken-push placed label k m) ∙ turned (is_in (box_of o) k m) (is_in (box_of label) k m) (is_taken placed k m) where
  turned : (a b c : Bool) → (a || (b || c)) ≡ (b || (a || c))
  turned true true c = refl
  turned true false c = refl
  turned false true c = refl
  turned false false c = refl

pub IsTaken-more : (view : ViewValue) (placed : List PlacedValue) (label : PlacedValue) (old new : List ℕ) → LiesInView view label → IsTaken view placed old → length new ≡ length old →
    ((k m : ℕ) → k < view.width → m < view.height → is_marked new (m * view.width + k) ≡ (is_in (box_of label) k m || is_marked old (m * view.width + k))) → IsTaken view (placed ++ label ∷ []) new
IsTaken-more view placed label old new one taken same marked_too = record {
  size = same ∙ taken.size;
  shown = All-push (LiesInView view) placed label taken.shown one;
  each = λ k m wide high.
      marked_too k m wide high ∙ ap (λ (t : Bool). is_in (box_of label) k m || t) (taken.each k m wide high) ∙ sym (taken-push placed label k m);
}

-- the same by the code's labels and its words, which were lent out of a list of this length
pub taken_lent : (view : ViewValue) (placed after : List Placed) (label : Placed) (old new : List ℕ) (n : ℕ) (rest : List ℕ) → after ≡ placed ++ label ∷ [] → length new ≡ n → length new ≡ length old →
    LiesInView view (placed_value label) → IsTaken view (placed_values placed) old →
    ((k m : ℕ) → k < view.width → m < view.height → is_marked new (m * view.width + k) ≡ (is_in (box_of (placed_value label)) k m || is_marked old (m * view.width + k))) →
    IsTaken view (placed_values after) (take n (new ++ rest))
taken_lent view placed after label old new n rest pushed whole same one taken marked_too =
    rw (take_at new rest n whole, pushed, map_push placed_value placed label) (IsTaken-more view (placed_values placed) (placed_value label) old new one taken same marked_too)
