-- A wider line along the same segments covers what a narrower one does.
use Rattle.std.proofs.Common.{◌≡◌, Bool, true, false, ℕ, suc, ◌*◌, ◌≤◌, not, ⊎_elim, List, [], ◌∷◌, ℤ, pos, negsuc, neg_ℤ, sym, subst, ◌∙◌, arith}
use Rattle.std.specs.List.{list_any}
use Rattle.std.proofs.lemmas.Bool.{false≢true, cases_Bool, and_parts, and_from, or_cases, or_left, or_right, not-true}
use Rattle.std.proofs.lemmas.Int.{ints}
use Rattle.std.proofs.Math.Nat.{mul-le-mul}
use Rattle.std.proofs.Math.IntN.{pos-*ℤ-pos, pos-*ℤ-negsuc}
use Rattle.wf_geometry.specs.Exact.{product, opposite, is_less}
use Rattle.wf_geometry.specs.Level.{is_in_margin}
use Rattle.wf_geometry.specs.Position.{PositionValue, turned}
use Rattle.wf_geometry.specs.Coverage.{run, deviation, margin, is_along, is_in_band, is_across, is_on_flat, is_steep, is_on, is_on_any}
use Rattle.wf_geometry.specs.declared.operation.Segment.{Segment}
use Rattle.wf_geometry.specs.Limit.{half_side}
use Rattle.wf_geometry.proofs.LineLemmas.{band_level, flat_back, flat_forth, on_steep, on_flat}

-- ---- margins

above_wider : (z : ℤ) (m n : ℕ) → m ≤ n → not (is_less z (opposite (pos m))) ≡ true → not (is_less z (opposite (pos n))) ≡ true
unfolding is_less opposite
above_wider z m n wider above = grind (arith, ints)

below_wider : (z : ℤ) (m n : ℕ) → m ≤ n → is_less z (pos m) ≡ true → is_less z (pos n) ≡ true
unfolding is_less
below_wider z m n wider below = grind (arith, ints)

-- what lies within a margin lies within a wider one
pub margin_wider : (z : ℤ) (m n : ℕ) → m ≤ n → is_in_margin (pos m) z ≡ true → is_in_margin (pos n) z ≡ true
unfolding is_in_margin
margin_wider z m n wider inside =
    let parts = and_parts (not (is_less z (opposite (pos m)))) (is_less z (pos m)) inside in
    and_from (not (is_less z (opposite (pos n)))) (is_less z (pos n)) (above_wider z m n wider parts.0) (below_wider z m n wider parts.1)

apart : (z : ℤ) (m : ℕ) → is_less z (opposite (neg_ℤ (pos m))) ≡ false → is_less z (neg_ℤ (pos m)) ≡ true → ⊥
unfolding is_less opposite
apart z m above below = omega (arith, ints)

-- nothing lies within a negative margin
no_margin : (z : ℤ) (m : ℕ) → is_in_margin (neg_ℤ (pos m)) z ≡ true → ⊥
unfolding is_in_margin
no_margin z m inside =
    let parts = and_parts (not (is_less z (opposite (neg_ℤ (pos m))))) (is_less z (neg_ℤ (pos m))) inside in
    apart z m (not-true (is_less z (opposite (neg_ℤ (pos m)))) parts.0) parts.1

-- the margin grows with the width, whatever it is multiplied by
pub times_wider : (z along : ℤ) (narrow wide : ℕ) → narrow ≤ wide →
    is_in_margin (product (pos (half_side * narrow)) along) z ≡ true → is_in_margin (product (pos (half_side * wide)) along) z ≡ true
unfolding product
times_wider z (pos n) narrow wide wider inside =
    let more : half_side * narrow * n ≤ half_side * wide * n = mul-le-mul (omega arith) (omega arith) in
    subst (λ (m : ℤ). is_in_margin m z ≡ true) (sym (pos-*ℤ-pos (half_side * wide) n))
    (margin_wider z (half_side * narrow * n) (half_side * wide * n) more (subst (λ (m : ℤ). is_in_margin m z ≡ true) (pos-*ℤ-pos (half_side * narrow) n) inside))
times_wider z (negsuc n) narrow wide wider inside =
    absurd (no_margin z (half_side * narrow * suc n) (subst (λ (m : ℤ). is_in_margin m z ≡ true) (pos-*ℤ-negsuc (half_side * narrow) n) inside))

-- ---- lines

pub band_wider : (narrow wide : ℕ) (c a b : PositionValue) → narrow ≤ wide → is_in_band narrow c a b ≡ true → is_in_band wide c a b ≡ true
unfolding margin
band_wider narrow wide c a b wider inside =
    band_level wide c a b ∙ times_wider (deviation c a b) (run a b) narrow wide wider (sym (band_level narrow c a b) ∙ inside)

across_wider : (narrow wide : ℕ) (c a b : PositionValue) → narrow ≤ wide → is_across narrow c a b ≡ true → is_across wide c a b ≡ true
unfolding is_across
across_wider narrow wide c a b wider covered =
    let parts = and_parts (is_along c a b) (is_in_band narrow c a b) covered in
    and_from (is_along c a b) (is_in_band wide c a b) parts.0 (band_wider narrow wide c a b wider parts.1)

flat_wider : (narrow wide : ℕ) (c a b : PositionValue) → narrow ≤ wide → is_on_flat narrow c a b ≡ true → is_on_flat wide c a b ≡ true
flat_wider narrow wide c a b wider covered = ⊎_elim
    (λ back. flat_back wide c a b back ∙ across_wider narrow wide c b a wider (sym (flat_back narrow c a b back) ∙ covered))
    (λ forth. flat_forth wide c a b forth ∙ across_wider narrow wide c a b wider (sym (flat_forth narrow c a b forth) ∙ covered))
    (cases_Bool (is_less b.x a.x))

-- the line along a segment
pub on_wider : (narrow wide : ℕ) (c : PositionValue) (s : Segment) → narrow ≤ wide → is_on narrow c s ≡ true → is_on wide c s ≡ true
on_wider narrow wide c s wider covered = ⊎_elim
    (λ steep. on_steep wide c s steep ∙ flat_wider narrow wide (turned c) (turned s.from) (turned s.to) wider (sym (on_steep narrow c s steep) ∙ covered))
    (λ flat. on_flat wide c s flat ∙ flat_wider narrow wide c s.from s.to wider (sym (on_flat narrow c s flat) ∙ covered))
    (cases_Bool (is_steep s.from s.to))

any_more : {X : Type 0} (test other : X → Bool) (xs : List X) → ((x : X) → test x ≡ true → other x ≡ true) → list_any test xs ≡ true → list_any other xs ≡ true
any_more test other [] more found = absurd (false≢true found)
any_more test other (x ∷ rest) more found = ⊎_elim
    (λ here. or_left (other x) (list_any other rest) (more x here))
    (λ later. or_right (other x) (list_any other rest) (any_more test other rest more later))
    (or_cases (test x) (list_any test rest) found)

-- the lines along segments
pub any_wider : (narrow wide : ℕ) (c : PositionValue) (segments : List Segment) → narrow ≤ wide → is_on_any narrow c segments ≡ true → is_on_any wide c segments ≡ true
unfolding is_on_any
any_wider narrow wide c segments wider covered = any_more (is_on narrow c) (is_on wide c) segments (λ s on. on_wider narrow wide c s wider on) covered
