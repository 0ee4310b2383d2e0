-- Either end of a segment may come first.
use Rattle.std.proofs.Common.{◌≡◌, ◌||◌, Bool, true, false, ℕ, ⊎_elim, nat_lt, ℤ, nat_abs, refl, sym, ap, subst, ◌∙◌, arith}
use Rattle.std.proofs.lemmas.Bool.{cases_Bool}
use Rattle.std.proofs.lemmas.Int.{ints}
use Rattle.wf_geometry.specs.Exact.{difference, is_less}
use Rattle.wf_geometry.specs.Position.{PositionValue, turned}
use Rattle.wf_geometry.specs.Coverage.{run, rise, meets, crosses, is_on_flat, is_steep, is_on}
use Rattle.wf_geometry.specs.Direction.{reversed}
use Rattle.wf_geometry.specs.declared.operation.Segment.{Segment}
use Rattle.wf_geometry.proofs.LineLemmas.{flat_back, flat_forth, on_steep, on_flat}

either : (a b : Bool) → (a || b) ≡ (b || a)
either true true = refl
either true false = refl
either false true = refl
either false false = refl

pub crosses_reversed : (c : PositionValue) (s : Segment) → crosses c (reversed s) ≡ crosses c s
unfolding crosses
crosses_reversed c s = either (meets c s.to s.from) (meets c s.from s.to)

run_back : (a b : PositionValue) → nat_abs (run b a) ≡ nat_abs (run a b)
unfolding run difference
run_back a b = omega (arith, ints)

rise_back : (a b : PositionValue) → nat_abs (rise b a) ≡ nat_abs (rise a b)
unfolding rise difference
rise_back a b = omega (arith, ints)

steep_back : (a b : PositionValue) → is_steep b a ≡ is_steep a b
unfolding is_steep
steep_back a b = ap (λ (n : ℕ). nat_lt n (nat_abs (rise b a))) (run_back a b) ∙ ap (nat_lt (nat_abs (run a b))) (rise_back a b)

not_both : (x z : ℤ) → is_less z x ≡ true → is_less x z ≡ false
unfolding is_less
not_both x z less = grind (arith, ints)

neither : (x z : ℤ) → is_less z x ≡ false → is_less x z ≡ false → x ≡ z
unfolding is_less
neither x z first second = grind (arith, ints)

same_position : (a b : PositionValue) → a.x ≡ b.x → a.y ≡ b.y → a ≡ b
same_position a b x y = λ i. record { x = x i; y = y i }

-- where equal ends are the only ones above each other
flat_reversed : (width : ℕ) (c a b : PositionValue) → (a.x ≡ b.x → a.y ≡ b.y) → is_on_flat width c b a ≡ is_on_flat width c a b
flat_reversed width c a b level = ⊎_elim
    (λ back. flat_forth width c b a (not_both a.x b.x back) ∙ sym (flat_back width c a b back))
    (λ forth. ⊎_elim
    (λ ahead. flat_back width c b a ahead ∙ sym (flat_forth width c a b forth))
    (λ beside. let same : a ≡ b = same_position a b (neither a.x b.x forth beside) (level (neither a.x b.x forth beside)) in
    subst (λ (p : PositionValue). is_on_flat width c p a ≡ is_on_flat width c a p) same refl)
    (cases_Bool (is_less a.x b.x)))
    (cases_Bool (is_less b.x a.x))

-- a segment that isn't steep has no length if its ends lie above each other
flat_level : (a b : PositionValue) → is_steep a b ≡ false → a.x ≡ b.x → a.y ≡ b.y
unfolding is_steep run rise difference
flat_level a b flat same = grind (arith, ints)

-- nor has one that is steep if they lie beside each other
steep_level : (a b : PositionValue) → is_steep a b ≡ true → a.y ≡ b.y → a.x ≡ b.x
unfolding is_steep run rise difference
steep_level a b steep same = grind (arith, ints)

pub on_reversed : (width : ℕ) (c : PositionValue) (s : Segment) → is_on width c (reversed s) ≡ is_on width c s
on_reversed width c s = ⊎_elim
    (λ steep. on_steep width c (reversed s) (steep_back s.from s.to ∙ steep)
    ∙ flat_reversed width (turned c) (turned s.from) (turned s.to) (steep_level s.from s.to steep)
    ∙ sym (on_steep width c s steep))
    (λ flat. on_flat width c (reversed s) (steep_back s.from s.to ∙ flat)
    ∙ flat_reversed width c s.from s.to (flat_level s.from s.to flat)
    ∙ sym (on_flat width c s flat))
    (cases_Bool (is_steep s.from s.to))
