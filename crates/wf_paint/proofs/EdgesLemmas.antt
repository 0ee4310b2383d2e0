-- Segments, those of them that differ, and those that are there an odd number of times.
use Rattle.std.proofs.Common.{◌≡◌, ℕ, ◌+◌, ◌-◌, ◌%◌, ◌==◌, ◌<◌, ◌≤◌, ◌||◌, Bool, true, false, cond, List, [], ◌∷◌, ◌++◌, take, length, get_or, Some, pos, refl, sym, ap, subst, ◌∙◌, arith}
use Rattle.std.specs.Prelude.{slice_get}
use Rattle.std.specs.List.{count_by, list_any}
use Rattle.std.specs.List.Sorted.{IsPermutation}
use Rattle.std.proofs.lemmas.List.{take_all, take_more}
use Rattle.std.proofs.lemmas.Option.{slice_get_within, get_or_from_slice_get}
use Rattle.std.proofs.lemmas.List.Folds.{list_any-append}
use Rattle.std.proofs.lemmas.List.Sorted.{list_any-IsPermutation, sum_by-IsPermutation}
use Rattle.std.proofs.lemmas.List.Sums.{sum_by_push}
use Rattle.wf_def.specs.declared.color.Color.{Color}
use Rattle.wf_geometry.specs.Position.{centre}
use Rattle.wf_geometry.specs.Coverage.{crosses, is_inside, is_on, is_on_any}
use Rattle.wf_paint.specs.Edges.{AreAlong, AreAround}
use Rattle.wf_paint.specs.Canvas.{CanvasValue}
use Rattle.wf_paint.specs.Shown.{IsColored}
use Rattle.wf_geometry.specs.declared.operation.Segment.{Segment}
use Rattle.wf_paint.proofs.ColoredLemmas.{IsColored-alike}

pub along_same : (segments : List Segment) → AreAlong segments segments
unfolding AreAlong
along_same segments width c = refl

pub along_twice : (all some fewer : List Segment) → AreAlong all some → AreAlong some fewer → AreAlong all fewer
unfolding AreAlong
along_twice all some fewer first second width c = second width c ∙ first width c

pub along_sorted : (segments sorted : List Segment) → IsPermutation segments sorted → AreAlong segments sorted
unfolding AreAlong is_on_any
along_sorted segments sorted permutation width c = sym (list_any-IsPermutation (is_on width c) segments sorted permutation)

-- one more segment after some
pub along_more : (before some : List Segment) (segment : Segment) → AreAlong before some → AreAlong (before ++ segment ∷ []) (some ++ segment ∷ [])
unfolding AreAlong is_on_any
along_more before some segment same width c =
    list_any-append (is_on width c) some (segment ∷ [])
    ∙ ap (λ (b : Bool). b || list_any (is_on width c) (segment ∷ [])) (same width c)
    ∙ sym (list_any-append (is_on width c) before (segment ∷ []))

or_again : (a b : Bool) → (a || b) ≡ ((a || b) || b)
or_again true b = refl
or_again false true = refl
or_again false false = refl

or_none : (b : Bool) → (b || false) ≡ b
or_none true = refl
or_none false = refl

-- the last segment again is left out
pub along_last : (front : List Segment) (segment : Segment) → AreAlong ((front ++ segment ∷ []) ++ segment ∷ []) (front ++ segment ∷ [])
unfolding AreAlong is_on_any
along_last front segment width c =
    let here : Bool = list_any (is_on width c) (segment ∷ []) in
    list_any-append (is_on width c) front (segment ∷ [])
    ∙ or_again (list_any (is_on width c) front) here
    ∙ ap (λ (b : Bool). b || here) (sym (list_any-append (is_on width c) front (segment ∷ [])))
    ∙ sym (list_any-append (is_on width c) (front ++ segment ∷ []) (segment ∷ []))

-- the last of some segments
module _ (segments : List Segment) (last : Segment) (is : slice_get segments (length segments - 1) ≡ Some last) where
  pub ends_with : segments ≡ take (length segments - 1) segments ++ last ∷ []
  ends_with =
      let some : length segments - 1 < length segments = slice_get_within segments (length segments - 1) last is in
      sym (take_all (length segments) segments (omega arith))
      ∙ ap (λ (n : ℕ). take n segments) (omega arith)
      ∙ take_more segments (length segments - 1) last some
      ∙ ap (λ (x : Segment). take (length segments - 1) segments ++ x ∷ []) (get_or_from_slice_get segments (length segments - 1) last last is)

  pub along_again : AreAlong (segments ++ last ∷ []) segments
  along_again = subst (λ (xs : List Segment). AreAlong (xs ++ last ∷ []) xs) (sym ends_with) (along_last (take (length segments - 1) segments) last)

-- ---- rays that meet an odd number

pub around_same : (segments : List Segment) → AreAround segments segments
unfolding AreAround
around_same segments c = refl

pub around_twice : (all some fewer : List Segment) → AreAround all some → AreAround some fewer → AreAround all fewer
unfolding AreAround
around_twice all some fewer first second c = second c ∙ first c

pub around_sorted : (segments sorted : List Segment) → IsPermutation segments sorted → AreAround segments sorted
unfolding AreAround
around_sorted segments sorted permutation c = ap (λ (n : ℕ). n % 2) (sum_by-IsPermutation (λ s. cond (crosses c s) 1 0) segments sorted permutation)

added : (m n k : ℕ) → m % 2 ≡ n % 2 → (m + k) % 2 ≡ (n + k) % 2
added m n k same = omega arith

-- one more segment after some
pub around_more : (before some : List Segment) (segment : Segment) → AreAround before some → AreAround (before ++ segment ∷ []) (some ++ segment ∷ [])
unfolding AreAround
around_more before some segment same c =
    let met : Segment → ℕ = λ s. cond (crosses c s) 1 0 in
    ap (λ (n : ℕ). n % 2) (sum_by_push met some segment)
    ∙ added (count_by (crosses c) some) (count_by (crosses c) before) (met segment) (same c)
    ∙ ap (λ (n : ℕ). n % 2) (sym (sum_by_push met before segment))

twice : (m k n : ℕ) → n ≡ (m + k) + k → m % 2 ≡ n % 2
twice m k n is = omega arith

-- two equal segments are left out
pub around_last : (front : List Segment) (segment : Segment) → AreAround ((front ++ segment ∷ []) ++ segment ∷ []) front
unfolding AreAround
around_last front segment c =
    let met : Segment → ℕ = λ s. cond (crosses c s) 1 0 in
    twice (count_by (crosses c) front) (met segment) (count_by (crosses c) ((front ++ segment ∷ []) ++ segment ∷ []))
    (sum_by_push met (front ++ segment ∷ []) segment ∙ ap (λ (n : ℕ). n + met segment) (sum_by_push met front segment))

pub around_cancelled : (segments : List Segment) (last : Segment) → slice_get segments (length segments - 1) ≡ Some last →
    AreAround (segments ++ last ∷ []) (take (length segments - 1) segments)
around_cancelled segments last is =
    subst (λ (xs : List Segment). AreAround (xs ++ last ∷ []) (take (length segments - 1) segments)) (sym (ends_with segments last is))
    (around_last (take (length segments - 1) segments) last)

pub around_none : AreAround [] []
around_none = around_same []

-- one segment more
pub around_step : (all : List Segment) (i : ℕ) (segment d : Segment) (before after : List Segment) → i < length all → segment ≡ get_or all i d →
    AreAround (take i all) before → AreAround (before ++ segment ∷ []) after → AreAround (take (i + 1) all) after
around_step all i segment d before after within here so_far next =
    let more : take (i + 1) all ≡ take i all ++ segment ∷ [] = take_more all i d within ∙ ap (λ (s : Segment). take i all ++ s ∷ []) (sym here) in
    subst (λ (xs : List Segment). AreAround xs after) (sym more)
    (around_twice (take i all ++ segment ∷ []) (before ++ segment ∷ []) after (around_more (take i all) before segment so_far) next)

pub around_all : (all : List Segment) (i : ℕ) (some : List Segment) → length all ≤ i → AreAround (take i all) some → AreAround all some
around_all all i some end around = subst (λ (xs : List Segment). AreAround xs some) (take_all i all end) around

-- the inside of these is that of all
pub inside_of_some : (all some : List Segment) (color : Color) (a b : CanvasValue) → AreAround all some →
    IsColored (λ column row. is_inside (centre (pos column) (pos row)) some) color a b →
    IsColored (λ column row. is_inside (centre (pos column) (pos row)) all) color a b
unfolding AreAround is_inside
inside_of_some all some color a b same colored =
    IsColored-alike (λ column row. is_inside (centre (pos column) (pos row)) some) (λ column row. is_inside (centre (pos column) (pos row)) all) color a b
    (λ column row wide high. ap (λ (n : ℕ). n == 1) (sym (same (centre (pos column) (pos row))))) colored

-- ---- lines

-- a line along these is one along all
pub line_along_some : (all some : List Segment) (width : ℕ) (color : Color) (a b : CanvasValue) → AreAlong all some →
    IsColored (λ column row. is_on_any width (centre (pos column) (pos row)) some) color a b →
    IsColored (λ column row. is_on_any width (centre (pos column) (pos row)) all) color a b
unfolding AreAlong
line_along_some all some width color a b same colored =
    IsColored-alike (λ column row. is_on_any width (centre (pos column) (pos row)) some) (λ column row. is_on_any width (centre (pos column) (pos row)) all) color a b
    (λ column row wide high. sym (same width (centre (pos column) (pos row)))) colored

-- ---- a loop over segments, of which each is added unless it is there

pub along_none : AreAlong [] []
along_none = along_same []

-- one segment more
pub along_step : (all : List Segment) (i : ℕ) (segment d : Segment) (before after : List Segment) → i < length all → segment ≡ get_or all i d →
    AreAlong (take i all) before → AreAlong (before ++ segment ∷ []) after → AreAlong (take (i + 1) all) after
along_step all i segment d before after within here so_far next =
    let more : take (i + 1) all ≡ take i all ++ segment ∷ [] = take_more all i d within ∙ ap (λ (s : Segment). take i all ++ s ∷ []) (sym here) in
    subst (λ (xs : List Segment). AreAlong xs after) (sym more)
    (along_twice (take i all ++ segment ∷ []) (before ++ segment ∷ []) after (along_more (take i all) before segment so_far) next)

pub along_all : (all : List Segment) (i : ℕ) (some : List Segment) → length all ≤ i → AreAlong (take i all) some → AreAlong all some
along_all all i some end along = subst (λ (xs : List Segment). AreAlong xs some) (take_all i all end) along
