-- The rows outside which the band of a line covers nothing.
use Rattle.std.proofs.Common.{◌≡◌, true, false, ℕ, zero, suc, ◌+◌, ◌*◌, ◌<◌, ◌≤◌, ◌⊎◌, inl, inr, not, ℤ, pos, negsuc, ◌+ℤ◌, ◌-ℤ◌, ◌*ℤ◌, ◌≤ℤ◌, ◌<ℤ◌, neg_ℤ, nat_abs, refl, ap, ◌∙◌, arith}
use Rattle.std.proofs.lemmas.Bool.{and_left, and_right, and_parts, not-true, cases_Bool}
use Rattle.std.proofs.lemmas.Int.{ints}
use Rattle.std.proofs.Math.Nat.{mul-le-mul}
use Rattle.std.proofs.Math.IntN.{*ℤ_comm, pos-*ℤ-pos, negsuc-*ℤ-pos}
use Rattle.wf_geometry.specs.Exact.{plus, difference, product, opposite, is_less}
use Rattle.wf_geometry.specs.Level.{is_in_margin}
use Rattle.wf_geometry.specs.Position.{PositionValue}
use Rattle.wf_geometry.specs.Coverage.{run, rise, deviation, margin, is_along, is_in_band, is_across}
use Rattle.wf_geometry.specs.Limit.{half_side}
use Rattle.wf_geometry.proofs.LineLemmas.{times_sum, across_left, across_along, band_level}

pub less_lowered : (z low half y : ℤ) → is_less z (difference low half) ≡ true → is_less y low ≡ false → is_less z (difference y half) ≡ true
unfolding is_less difference
less_lowered z low half y under least = grind (arith, ints)

pub less_raised : (z high half y : ℤ) → is_less z (plus high half) ≡ false → is_less high y ≡ false → is_less z (plus y half) ≡ false
unfolding is_less plus
less_raised z high half y over most = grind (arith, ints)

-- ---- the deviation between the ends: those of both ends, weighted by the distance to the other

split_sums : (p a b c q w : ℤ) → p ≡ a +ℤ b → a ≡ c +ℤ q → w ≡ c → p -ℤ w ≡ b +ℤ q
split_sums p a b c q w whole first second = omega (arith, ints)

times_count : (p : ℤ) (x y : ℕ) → p *ℤ pos (x + y) ≡ p *ℤ pos x +ℤ p *ℤ pos y
times_count p x y = omega (arith, ints)

between : (p q : ℤ) → p ≡ (p -ℤ q) +ℤ q
between p q = omega (arith, ints)

weighed : (p q : ℤ) (x y : ℕ) → p *ℤ pos (x + y) -ℤ pos x *ℤ (p -ℤ q) ≡ p *ℤ pos y +ℤ q *ℤ pos x
weighed p q x y = split_sums (p *ℤ pos (x + y)) (p *ℤ pos x) (p *ℤ pos y) ((p -ℤ q) *ℤ pos x) (q *ℤ pos x) (pos x *ℤ (p -ℤ q))
    (times_count p x y) (ap (λ (z : ℤ). z *ℤ pos x) (between p q) ∙ times_sum (p -ℤ q) q (pos x)) (*ℤ_comm (pos x) (p -ℤ q))

counted : (z : ℤ) → pos 0 ≤ℤ z → z ≡ pos (nat_abs z)
counted (pos n) some = refl
counted (negsuc n) some = absurd (omega (arith, ints))

run_split : (c a b : PositionValue) → run a b ≡ run a c +ℤ run c b
unfolding run difference
run_split c a b = omega (arith, ints)

rise_split : (c a b : PositionValue) → rise a b ≡ rise a c -ℤ rise b c
unfolding rise difference
rise_split c a b = omega (arith, ints)

run_from : (c a b : PositionValue) → is_along c a b ≡ true → run a c ≡ pos (nat_abs (run a c))
unfolding is_along run is_less difference
run_from c a b along =
    let left = not-true _ (and_parts (not (is_less c.x a.x)) (not (is_less b.x c.x)) along).0 in
    counted (c.x -ℤ a.x) (omega (arith, ints))

run_to : (c a b : PositionValue) → is_along c a b ≡ true → run c b ≡ pos (nat_abs (run c b))
unfolding is_along run is_less difference
run_to c a b along =
    let right = not-true _ (and_parts (not (is_less c.x a.x)) (not (is_less b.x c.x)) along).1 in
    counted (b.x -ℤ c.x) (omega (arith, ints))

run_counted : (c a b : PositionValue) → is_along c a b ≡ true → run a b ≡ pos (nat_abs (run a c) + nat_abs (run c b))
run_counted c a b along = run_split c a b ∙ ap (λ (z : ℤ). z +ℤ run c b) (run_from c a b along) ∙ ap (λ (z : ℤ). pos (nat_abs (run a c)) +ℤ z) (run_to c a b along)

deviation_weighed : (c a b : PositionValue) → is_along c a b ≡ true →
    deviation c a b ≡ rise a c *ℤ pos (nat_abs (run c b)) +ℤ rise b c *ℤ pos (nat_abs (run a c))
unfolding deviation difference product
deviation_weighed c a b along =
    ap (λ (z : ℤ). rise a c *ℤ z -ℤ run a c *ℤ rise a b) (run_counted c a b along)
    ∙ ap (λ (z : ℤ). rise a c *ℤ pos (nat_abs (run a c) + nat_abs (run c b)) -ℤ z *ℤ rise a b) (run_from c a b along)
    ∙ ap (λ (z : ℤ). rise a c *ℤ pos (nat_abs (run a c) + nat_abs (run c b)) -ℤ pos (nat_abs (run a c)) *ℤ z) (rise_split c a b)
    ∙ weighed (rise a c) (rise b c) (nat_abs (run a c)) (nat_abs (run c b))

margin_counted : (width : ℕ) (c a b : PositionValue) → is_along c a b ≡ true → margin width a b ≡ pos (half_side * width * (nat_abs (run a c) + nat_abs (run c b)))
unfolding margin product
margin_counted width c a b along = ap (λ (z : ℤ). pos (half_side * width) *ℤ z) (run_counted c a b along) ∙ pos-*ℤ-pos (half_side * width) (nat_abs (run a c) + nat_abs (run c b))

-- ---- half the width beyond both ends

far_below : (z : ℤ) (m n : ℕ) → z ≡ neg_ℤ (pos n) → m < n → is_less z (opposite (pos m)) ≡ true
unfolding is_less opposite
far_below z m n here far = grind (arith, ints)

at_zero : (z : ℤ) (m n : ℕ) → z ≡ neg_ℤ (pos n) → n ≡ 0 → m ≡ 0 → is_less z (pos m) ≡ false
unfolding is_less
at_zero z m n here none flat = grind (arith, ints)

margin_below : (z : ℤ) (m n : ℕ) → z ≡ neg_ℤ (pos n) → (m < n) ⊎ ((n ≡ 0) × (m ≡ 0)) → is_in_margin (pos m) z ≡ false
unfolding is_in_margin
margin_below z m n here (inl far) = and_left (not (is_less z (opposite (pos m)))) (is_less z (pos m)) (ap not (far_below z m n here far))
margin_below z m n here (inr (none, flat)) = and_right (not (is_less z (opposite (pos m)))) (is_less z (pos m)) (at_zero z m n here none flat)

negative_sum : (a b : ℤ) (m n : ℕ) → a ≡ neg_ℤ (pos m) → b ≡ neg_ℤ (pos n) → a +ℤ b ≡ neg_ℤ (pos (m + n))
negative_sum a b m n first second = omega (arith, ints)

far_or_none : (r x y i j : ℕ) → r ≤ i → r ≤ j → (r * (x + y) < suc i * y + suc j * x) ⊎ ((suc i * y + suc j * x ≡ 0) × (r * (x + y) ≡ 0))
far_or_none r zero zero i j first second = inr (omega arith, omega arith)
far_or_none r (suc x) y i j first second =
    let left : r * y ≤ i * y = mul-le-mul first (omega arith) in
    let right : r * suc x ≤ j * suc x = mul-le-mul second (omega arith) in
    inl (omega arith)
far_or_none r zero (suc y) i j first second =
    let left : r * suc y ≤ i * suc y = mul-le-mul first (omega arith) in
    inl (omega arith)

out_below : (r x y : ℕ) (p q : ℤ) → p <ℤ neg_ℤ (pos r) → q <ℤ neg_ℤ (pos r) → is_in_margin (pos (r * (x + y))) (p *ℤ pos y +ℤ q *ℤ pos x) ≡ false
out_below r x y (pos i) q first second = absurd (omega (arith, ints))
out_below r x y (negsuc i) (pos j) first second = absurd (omega (arith, ints))
out_below r x y (negsuc i) (negsuc j) first second =
    margin_below _ (r * (x + y)) (suc i * y + suc j * x) (negative_sum _ _ (suc i * y) (suc j * x) (negsuc-*ℤ-pos i y) (negsuc-*ℤ-pos j x))
    (far_or_none r x y i j (omega (arith, ints)) (omega (arith, ints)))

weighed_margin : (r x y i j : ℕ) → r ≤ i → r ≤ j → r * (x + y) ≤ i * y + j * x
weighed_margin r x y i j first second =
    let left : r * y ≤ i * y = mul-le-mul first (omega arith) in
    let right : r * x ≤ j * x = mul-le-mul second (omega arith) in
    omega arith

far_above : (a b : ℤ) (m n k : ℕ) → a ≡ pos n → b ≡ pos k → m ≤ n + k → is_less (a +ℤ b) (pos m) ≡ false
unfolding is_less
far_above a b m n k first second far = grind (arith, ints)

out_above : (r x y : ℕ) (p q : ℤ) → pos r ≤ℤ p → pos r ≤ℤ q → is_in_margin (pos (r * (x + y))) (p *ℤ pos y +ℤ q *ℤ pos x) ≡ false
unfolding is_in_margin
out_above r x y (negsuc i) q first second = absurd (omega (arith, ints))
out_above r x y (pos i) (negsuc j) first second = absurd (omega (arith, ints))
out_above r x y (pos i) (pos j) first second =
    and_right (not (is_less (pos i *ℤ pos y +ℤ pos j *ℤ pos x) (opposite (pos (r * (x + y)))))) (is_less (pos i *ℤ pos y +ℤ pos j *ℤ pos x) (pos (r * (x + y))))
    (far_above (pos i *ℤ pos y) (pos j *ℤ pos x) (r * (x + y)) (i * y) (j * x) (pos-*ℤ-pos i y) (pos-*ℤ-pos j x)
    (weighed_margin r x y i j (omega (arith, ints)) (omega (arith, ints))))

-- ---- the line

band_weighed : (width : ℕ) (c a b : PositionValue) → is_along c a b ≡ true →
    is_in_band width c a b ≡ is_in_margin (pos (half_side * width * (nat_abs (run a c) + nat_abs (run c b)))) (rise a c *ℤ pos (nat_abs (run c b)) +ℤ rise b c *ℤ pos (nat_abs (run a c)))
band_weighed width c a b along =
    band_level width c a b
    ∙ ap (λ (z : ℤ). is_in_margin z (deviation c a b)) (margin_counted width c a b along)
    ∙ ap (is_in_margin (pos (half_side * width * (nat_abs (run a c) + nat_abs (run c b))))) (deviation_weighed c a b along)

between_ends : (width : ℕ) (c a b : PositionValue) → (is_along c a b ≡ true → is_in_band width c a b ≡ false) → is_across width c a b ≡ false
between_ends width c a b none = by_case (cases_Bool (is_along c a b)) where
  by_case : ((is_along c a b ≡ true) ⊎ (is_along c a b ≡ false)) → is_across width c a b ≡ false
  by_case (inl along) = across_along width c a b along ∙ none along
  by_case (inr left) = across_left width c a b left

low_rise : (width : ℕ) (c a : PositionValue) → is_less c.y (difference a.y (pos (half_side * width))) ≡ true → rise a c <ℤ neg_ℤ (pos (half_side * width))
unfolding is_less rise difference
low_rise width c a below = omega (arith, ints)

high_rise : (width : ℕ) (c a : PositionValue) → is_less c.y (plus a.y (pos (half_side * width))) ≡ false → pos (half_side * width) ≤ℤ rise a c
unfolding is_less rise difference plus
high_rise width c a above = omega (arith, ints)

-- a position half the width or more below both ends isn't covered
pub beyond_below : (width : ℕ) (c a b : PositionValue) → is_less c.y (difference a.y (pos (half_side * width))) ≡ true → is_less c.y (difference b.y (pos (half_side * width))) ≡ true →
    is_across width c a b ≡ false
beyond_below width c a b first second = between_ends width c a b (λ along. band_weighed width c a b along
    ∙ out_below (half_side * width) (nat_abs (run a c)) (nat_abs (run c b)) (rise a c) (rise b c) (low_rise width c a first) (low_rise width c b second))

-- nor is one half the width or more above both
pub beyond_above : (width : ℕ) (c a b : PositionValue) → is_less c.y (plus a.y (pos (half_side * width))) ≡ false → is_less c.y (plus b.y (pos (half_side * width))) ≡ false →
    is_across width c a b ≡ false
beyond_above width c a b first second = between_ends width c a b (λ along. band_weighed width c a b along
    ∙ out_above (half_side * width) (nat_abs (run a c)) (nat_abs (run c b)) (rise a c) (rise b c) (high_rise width c a first) (high_rise width c b second))
