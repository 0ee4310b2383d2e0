-- A view that is moved moves each shape by the same offset: it covers a pixel there iff it covers
-- the moved pixel here.
use Rattle.std.proofs.Common.{◌≡◌, ℕ, ◌+◌, ◌*◌, ◌==◌, ◌%◌, ◌/◌, ◌||◌, Bool, cond, List, [], ◌∷◌, ◌++◌, map, ℤ, pos, negsuc, ◌+ℤ◌, ◌-ℤ◌, ◌*ℤ◌, ◌≤ℤ◌, ◌<ℤ◌, refl, sym, ap, ◌∙◌, arith}
use Rattle.std.specs.Int.{int_div_euclid}
use Rattle.std.specs.List.{count_by, list_any, flat_map, fold}
use Rattle.std.proofs.lemmas.Int.{ints}
use Rattle.std.proofs.lemmas.List.{map-append}
use Rattle.wf_geometry.specs.Exact.{plus, difference, product, quotient, is_less}
use Rattle.wf_geometry.specs.Position.{PositionValue, middle, centre, turned}
use Rattle.wf_geometry.specs.Coverage.{run, rise, is_left_of, is_beside, meets, crosses, is_inside, deviation, margin, is_along, is_in_band, is_across, is_on_flat, is_steep, is_on, is_on_any}
use Rattle.wf_geometry.specs.Segments.{path_from, path, ring}
use Rattle.wf_geometry.specs.Square.{square_start, is_in_span, is_in_square}
use Rattle.wf_geometry.specs.declared.operation.Segment.{Segment}
use Rattle.wf_geometry.specs.Limit.{half_side, pixel_side}
use Rattle.wf_geometry.proofs.QuotientLemmas.{quotient_only}

-- ---- numbers

difference_moved : (a b s : ℤ) → difference (difference b s) (difference a s) ≡ difference b a
unfolding difference
difference_moved a b s = omega (arith, ints)

less_moved : (a b s : ℤ) → is_less (difference a s) (difference b s) ≡ is_less a b
unfolding difference is_less
less_moved a b s = grind (arith, ints)

-- moved s sixteenths left and t sixteenths down
abbrev pub moved : ℤ → ℤ → PositionValue → PositionValue
moved s t p = record { x = difference p.x s; y = difference p.y t }

-- ---- segments

abbrev pub segment : PositionValue → PositionValue → Segment
segment a b = record { from = a; to = b }

run_moved : (s t : ℤ) (a b : PositionValue) → run (moved s t a) (moved s t b) ≡ run a b
unfolding run
run_moved s t a b = difference_moved a.x b.x s

rise_moved : (s t : ℤ) (a b : PositionValue) → rise (moved s t a) (moved s t b) ≡ rise a b
unfolding rise
rise_moved s t a b = difference_moved a.y b.y t

left_of_moved : (s t : ℤ) (c low high : PositionValue) → is_left_of (moved s t c) (moved s t low) (moved s t high) ≡ is_left_of c low high
unfolding is_left_of
left_of_moved s t c low high =
    let across = run_moved s t low c in
    let up = rise_moved s t low high in
    let above = rise_moved s t low c in
    let along = run_moved s t low high in
    cc

beside_moved : (s t : ℤ) (c low high : PositionValue) → is_beside (moved s t c) (moved s t low) (moved s t high) ≡ is_beside c low high
unfolding is_beside
beside_moved s t c low high =
    let below = less_moved c.y low.y t in
    let above = less_moved c.y high.y t in
    cc

meets_moved : (s t : ℤ) (c low high : PositionValue) → meets (moved s t c) (moved s t low) (moved s t high) ≡ meets c low high
unfolding meets
meets_moved s t c low high =
    let beside = beside_moved s t c low high in
    let left_of = left_of_moved s t c low high in
    cc

pub crosses_moved : (s t : ℤ) (c a b : PositionValue) → crosses (moved s t c) (segment (moved s t a) (moved s t b)) ≡ crosses c (segment a b)
unfolding crosses
crosses_moved s t c a b =
    let up = meets_moved s t c a b in
    let down = meets_moved s t c b a in
    cc

deviation_moved : (s t : ℤ) (c a b : PositionValue) → deviation (moved s t c) (moved s t a) (moved s t b) ≡ deviation c a b
unfolding deviation
deviation_moved s t c a b =
    let risen = rise_moved s t a c in
    let along = run_moved s t a b in
    let across = run_moved s t a c in
    let up = rise_moved s t a b in
    cc

margin_moved : (s t : ℤ) (width : ℕ) (a b : PositionValue) → margin width (moved s t a) (moved s t b) ≡ margin width a b
unfolding margin
margin_moved s t width a b = ap (product (pos (half_side * width))) (run_moved s t a b)

band_moved : (s t : ℤ) (width : ℕ) (c a b : PositionValue) → is_in_band width (moved s t c) (moved s t a) (moved s t b) ≡ is_in_band width c a b
unfolding is_in_band
band_moved s t width c a b =
    let far = deviation_moved s t c a b in
    let half = margin_moved s t width a b in
    cc

along_moved : (s t : ℤ) (c a b : PositionValue) → is_along (moved s t c) (moved s t a) (moved s t b) ≡ is_along c a b
unfolding is_along
along_moved s t c a b =
    let left = less_moved c.x a.x s in
    let right = less_moved b.x c.x s in
    cc

across_moved : (s t : ℤ) (width : ℕ) (c a b : PositionValue) → is_across width (moved s t c) (moved s t a) (moved s t b) ≡ is_across width c a b
unfolding is_across
across_moved s t width c a b =
    let along = along_moved s t c a b in
    let band = band_moved s t width c a b in
    cc

flat_moved : (s t : ℤ) (width : ℕ) (c a b : PositionValue) → is_on_flat width (moved s t c) (moved s t a) (moved s t b) ≡ is_on_flat width c a b
unfolding is_on_flat
flat_moved s t width c a b =
    let order = less_moved b.x a.x s in
    let forth = across_moved s t width c a b in
    let back = across_moved s t width c b a in
    cc

steep_moved : (s t : ℤ) (a b : PositionValue) → is_steep (moved s t a) (moved s t b) ≡ is_steep a b
unfolding is_steep
steep_moved s t a b =
    let along = run_moved s t a b in
    let up = rise_moved s t a b in
    cc

pub on_moved : (s t : ℤ) (width : ℕ) (c a b : PositionValue) → is_on width (moved s t c) (segment (moved s t a) (moved s t b)) ≡ is_on width c (segment a b)
unfolding is_on
on_moved s t width c a b =
    let steep = steep_moved s t a b in
    let flat = flat_moved s t width c a b in
    let across = flat_moved t s width (turned c) (turned a) (turned b) in
    cc

-- ---- lists of segments

-- two lists joined from pieces test equal where the pieces do
pub flat_map_alike : {X A B C : Type 0} (f : X → List A) (g : X → List B) (h : A → C) (k : B → C) →
    ((x : X) → map h (f x) ≡ map k (g x)) → (xs : List X) → map h (flat_map f xs) ≡ map k (flat_map g xs)
flat_map_alike f g h k alike [] = refl
flat_map_alike f g h k alike (x ∷ xs) =
    map-append h (f x) (flat_map f xs)
    ∙ ap (λ first. first ++ map h (flat_map f xs)) (alike x)
    ∙ ap (λ rest. map k (g x) ++ rest) (flat_map_alike f g h k alike xs)
    ∙ sym (map-append k (g x) (flat_map g xs))

module _ (s t : ℤ) (test here : Segment → Bool) (agree : (a b : PositionValue) → test (segment (moved s t a) (moved s t b)) ≡ here (segment a b)) where
  way_alike : (a : PositionValue) (xs : List PositionValue) → map test (path_from (moved s t a) (map (moved s t) xs)) ≡ map here (path_from a xs)
  way_alike a [] = refl
  way_alike a (b ∷ xs) =
      ap (λ first. first ∷ map test (path_from (moved s t b) (map (moved s t) xs))) (agree a b)
      ∙ ap (λ rest. here (segment a b) ∷ rest) (way_alike b xs)

  pub path_alike : (xs : List PositionValue) → map test (path (map (moved s t) xs)) ≡ map here (path xs)
  path_alike [] = refl
  path_alike (a ∷ xs) = way_alike a xs

  pub ring_alike : (xs : List PositionValue) → map test (ring (map (moved s t) xs)) ≡ map here (ring xs)
  ring_alike [] = refl
  ring_alike (a ∷ xs) =
      ap (λ ways. map test (path_from (moved s t a) ways)) (sym (map-append (moved s t) xs (a ∷ [])))
      ∙ way_alike a (xs ++ a ∷ [])

counted : (test : Segment → Bool) (n : ℕ) (xs : List Segment) → fold (λ k x. k + cond (test x) 1 0) n xs ≡ fold (λ k b. k + cond b 1 0) n (map test xs)
counted test n [] = refl
counted test n (x ∷ xs) = counted test (n + cond (test x) 1 0) xs

count_of_tests : (test : Segment → Bool) (xs : List Segment) → count_by test xs ≡ count_by (λ b. b) (map test xs)
count_of_tests test xs = counted test 0 xs

any_of_tests : (test : Segment → Bool) (xs : List Segment) → list_any test xs ≡ list_any (λ b. b) (map test xs)
any_of_tests test [] = refl
any_of_tests test (x ∷ xs) = ap (λ b. test x || b) (any_of_tests test xs)

-- whether a position is inside depends only on which edges its ray meets
pub inside_alike : (c d : PositionValue) (xs ys : List Segment) → map (crosses c) xs ≡ map (crosses d) ys → is_inside c xs ≡ is_inside d ys
unfolding is_inside
inside_alike c d xs ys same = ap (λ (n : ℕ). n % 2 == 1) (count_of_tests (crosses c) xs ∙ ap (count_by (λ b. b)) same ∙ sym (count_of_tests (crosses d) ys))

pub on_any_alike : (width : ℕ) (c d : PositionValue) (xs ys : List Segment) → map (is_on width c) xs ≡ map (is_on width d) ys → is_on_any width c xs ≡ is_on_any width d ys
unfolding is_on_any
on_any_alike width c d xs ys same = any_of_tests (is_on width c) xs ∙ ap (list_any (λ b. b)) same ∙ sym (any_of_tests (is_on width d) ys)

-- ---- pixels

-- a pixel has sixteen sixteenths
unfoldable pub sixteenths : ℤ → ℤ
sixteenths pixels = product (pos pixel_side) pixels

middle_moved : (pixel m : ℤ) → middle pixel ≡ difference (middle (plus pixel m)) (sixteenths m)
unfolding plus difference product sixteenths
middle_moved pixel m = omega (arith, ints)

pub centre_moved : (column row m n : ℤ) → centre column row ≡ moved (sixteenths m) (sixteenths n) (centre (plus column m) (plus row n))
centre_moved column row m n i = record { x = middle_moved column m i; y = middle_moved row n i }

quotient_bounds : (z : ℤ) → ((int_div_euclid z (pos pixel_side) *ℤ pos pixel_side) ≤ℤ z) × (z <ℤ (int_div_euclid z (pos pixel_side) *ℤ pos pixel_side +ℤ pos pixel_side))
quotient_bounds (pos a) = (omega (arith, ints), omega (arith, ints))
quotient_bounds (negsuc a) = (omega (arith, ints), omega (arith, ints))

quotient_moved : (z m : ℤ) → quotient (difference z (sixteenths m)) (pos pixel_side) ≡ difference (quotient z (pos pixel_side)) m
unfolding quotient difference product sixteenths
quotient_moved z m =
    let bounds = quotient_bounds z in
    quotient_only (z -ℤ (pos pixel_side *ℤ m)) (int_div_euclid z (pos pixel_side) -ℤ m) 16 (omega arith) (omega (arith, ints)) (omega (arith, ints))

start_moved : (a q m h : ℤ) → is_less a (difference (difference q m) h) ≡ is_less (plus a m) (difference q h)
unfolding is_less difference plus
start_moved a q m h = grind (arith, ints)

end_moved : (a q m h w : ℤ) → is_less a (plus (difference (difference q m) h) w) ≡ is_less (plus a m) (plus (difference q h) w)
unfolding is_less difference plus
end_moved a q m h w = grind (arith, ints)

span_moved : (size : ℕ) (z m column : ℤ) → is_in_span size (difference z (sixteenths m)) column ≡ is_in_span size z (plus column m)
unfolding is_in_span square_start
span_moved size z m column =
    let start = start_moved column (quotient z (pos pixel_side)) m (pos (size / 2)) in
    let end = end_moved column (quotient z (pos pixel_side)) m (pos (size / 2)) (pos size) in
    rw (quotient_moved z m) cc

pub square_moved : (size : ℕ) (p : PositionValue) (m n column row : ℤ) →
    is_in_square size (moved (sixteenths m) (sixteenths n) p) column row ≡ is_in_square size p (plus column m) (plus row n)
unfolding is_in_square
square_moved size p m n column row =
    let across = span_moved size p.x m column in
    let up = span_moved size p.y n row in
    cc
