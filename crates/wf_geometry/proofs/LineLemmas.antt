-- Which pixels of a row the line along a segment covers.
use Rattle.std.proofs.Common.{◌≡◌, Bool, true, false, ℕ, ◌+◌, ◌*◌, ◌&&◌, ℤ, pos, ◌+ℤ◌, ◌-ℤ◌, ◌*ℤ◌, neg_ℤ, refl, sym, ap, ◌∙◌, arith}
use Rattle.std.proofs.lemmas.Int.{ints}
use Rattle.std.proofs.lemmas.Bool.{and_left}
use borrow.Author.Differences.{up, down, sum_is_lem, product_is}
use Rattle.wf_geometry.specs.Exact.{plus, difference, product, opposite, is_less}
use Rattle.wf_geometry.specs.Level.{level, is_in_margin}
use Rattle.wf_geometry.specs.Position.{PositionValue, centre, turned}
use Rattle.wf_geometry.specs.Coverage.{run, rise, deviation, margin, is_along, is_in_band, is_across, is_on_flat, is_steep, is_on}
use Rattle.wf_geometry.specs.declared.operation.Segment.{Segment}
use Rattle.wf_geometry.specs.Limit.{half_side, pixel_side}
use Rattle.wf_geometry.proofs.LevelLemmas.{opposed}

-- ---- whole numbers

pub times_sum : (a b c : ℤ) → (a +ℤ b) *ℤ c ≡ a *ℤ c +ℤ b *ℤ c
times_sum a b c =
    let sum = sum_is_lem a b in
    let ups : (up (a +ℤ b) + down a + down b) * up c ≡ (down (a +ℤ b) + up a + up b) * up c = ap (λ (n : ℕ). n * up c) sum in
    let downs : (up (a +ℤ b) + down a + down b) * down c ≡ (down (a +ℤ b) + up a + up b) * down c = ap (λ (n : ℕ). n * down c) sum in
    omega (arith, ints)

-- sixteen times one factor is sixteen times the other
pub sixteen : (u e : ℤ) → (pos pixel_side *ℤ u) *ℤ e ≡ (pos pixel_side *ℤ e) *ℤ u
sixteen u e =
    let left = product_is (pos pixel_side) u in
    let right = product_is (pos pixel_side) e in
    let a = ap (λ (n : ℕ). n * up e) left.0 in
    let b = ap (λ (n : ℕ). n * down e) left.0 in
    let c = ap (λ (n : ℕ). n * up e) left.1 in
    let d = ap (λ (n : ℕ). n * down e) left.1 in
    let f = ap (λ (n : ℕ). n * up u) right.0 in
    let g = ap (λ (n : ℕ). n * down u) right.0 in
    let h = ap (λ (n : ℕ). n * up u) right.1 in
    let i = ap (λ (n : ℕ). n * down u) right.1 in
    omega (arith, ints)

-- ---- the deviation changes by one step from column to column

split : (u x : ℤ) → (pos pixel_side *ℤ u +ℤ pos half_side) -ℤ x ≡ pos pixel_side *ℤ u +ℤ ((pos pixel_side *ℤ pos 0 +ℤ pos half_side) -ℤ x)
split u x = omega (arith, ints)

stepped : (u x e : ℤ) → ((pos pixel_side *ℤ u +ℤ pos half_side) -ℤ x) *ℤ e ≡ (pos pixel_side *ℤ e) *ℤ u +ℤ ((pos pixel_side *ℤ pos 0 +ℤ pos half_side) -ℤ x) *ℤ e
stepped u x e = ap (λ (z : ℤ). z *ℤ e) (split u x) ∙ times_sum (pos pixel_side *ℤ u) ((pos pixel_side *ℤ pos 0 +ℤ pos half_side) -ℤ x) e
    ∙ ap (λ (z : ℤ). z +ℤ ((pos pixel_side *ℤ pos 0 +ℤ pos half_side) -ℤ x) *ℤ e) (sixteen u e)

taken_off : (p z t w q : ℤ) → z ≡ t +ℤ w → q ≡ neg_ℤ t → p -ℤ z ≡ (p -ℤ w) +ℤ q
taken_off p z t w q whole turned = omega (arith, ints)

added : (z t w p : ℤ) → z ≡ t +ℤ w → z -ℤ p ≡ (w -ℤ p) +ℤ t
added z t w p whole = omega (arith, ints)

pub deviation_across : (u : ℕ) (row : ℤ) (a b : PositionValue) →
    deviation (centre (pos u) row) a b ≡ level (deviation (centre (pos 0) row) a b) (opposite (product (pos pixel_side) (rise a b))) (pos u)
unfolding deviation run rise level plus difference product opposite
deviation_across u row a b =
    taken_off _ _ (pos pixel_side *ℤ (b.y -ℤ a.y) *ℤ pos u) (((pos pixel_side *ℤ pos 0 +ℤ pos half_side) -ℤ a.x) *ℤ (b.y -ℤ a.y)) _ (stepped (pos u) a.x (b.y -ℤ a.y)) (opposed (pos pixel_side *ℤ (b.y -ℤ a.y)) u)

pub deviation_upward : (u : ℕ) (row : ℤ) (a b : PositionValue) →
    deviation (turned (centre (pos u) row)) a b ≡ level (deviation (turned (centre (pos 0) row)) a b) (product (pos pixel_side) (run a b)) (pos u)
unfolding deviation run rise level plus difference product opposite
deviation_upward u row a b =
    added _ (pos pixel_side *ℤ (b.x -ℤ a.x) *ℤ pos u) (((pos pixel_side *ℤ pos 0 +ℤ pos half_side) -ℤ a.y) *ℤ (b.x -ℤ a.x)) _ (stepped (pos u) a.y (b.x -ℤ a.x))

-- ---- the deviations of a picture's pixels change by one step from column to column, and by
-- another from row to row

rise_back : (a b : PositionValue) → opposite (product (pos pixel_side) (rise a b)) ≡ product (pos pixel_side) (rise b a)
unfolding rise difference product opposite
rise_back a b = omega (arith, ints)

pub across_levels : (u v : ℕ) (a b : PositionValue) →
    level (level (deviation (centre (pos 0) (pos 0)) a b) (product (pos pixel_side) (run a b)) (pos v)) (product (pos pixel_side) (rise b a)) (pos u)
    ≡ deviation (centre (pos u) (pos v)) a b
across_levels u v a b =
    sym (deviation_across u (pos v) a b
    ∙ ap (λ (z : ℤ). level z (opposite (product (pos pixel_side) (rise a b))) (pos u)) (deviation_upward v (pos 0) a b)
    ∙ ap (λ (z : ℤ). level (level (deviation (centre (pos 0) (pos 0)) a b) (product (pos pixel_side) (run a b)) (pos v)) z (pos u)) (rise_back a b))

pub upward_levels : (u v : ℕ) (a b : PositionValue) →
    level (level (deviation (turned (centre (pos 0) (pos 0))) a b) (product (pos pixel_side) (rise b a)) (pos v)) (product (pos pixel_side) (run a b)) (pos u)
    ≡ deviation (turned (centre (pos u) (pos v))) a b
upward_levels u v a b =
    sym (deviation_upward u (pos v) a b
    ∙ ap (λ (z : ℤ). level z (product (pos pixel_side) (run a b)) (pos u)) (deviation_across v (pos 0) a b)
    ∙ ap (λ (z : ℤ). level (level (deviation (centre (pos 0) (pos 0)) a b) z (pos v)) (product (pos pixel_side) (run a b)) (pos u)) (rise_back a b))

pub band_level : (width : ℕ) (c a b : PositionValue) → is_in_band width c a b ≡ is_in_margin (margin width a b) (deviation c a b)
unfolding is_in_band is_in_margin
band_level width c a b = refl

-- outside its ends the line covers nothing
pub across_left : (width : ℕ) (c a b : PositionValue) → is_along c a b ≡ false → is_across width c a b ≡ false
unfolding is_across
across_left width c a b left = and_left (is_along c a b) (is_in_band width c a b) left

pub across_along : (width : ℕ) (c a b : PositionValue) → is_along c a b ≡ true → is_across width c a b ≡ is_in_band width c a b
unfolding is_across
across_along width c a b along = rw along refl

-- between its ends it covers where the level lies within the margin
pub across_level : (width : ℕ) (c a b : PositionValue) (between : Bool) (m z : ℤ) → is_along c a b ≡ between → m ≡ margin width a b → z ≡ deviation c a b →
    is_across width c a b ≡ (between && is_in_margin m z)
unfolding is_across
across_level width c a b between m z along half here =
    ap (λ (t : Bool). t && is_in_band width c a b) along
    ∙ ap (λ (t : Bool). between && t) (band_level width c a b ∙ ap (is_in_margin (margin width a b)) (sym here) ∙ ap (λ (w : ℤ). is_in_margin w z) (sym half))

-- ---- segments

pub flat_back : (width : ℕ) (c a b : PositionValue) → is_less b.x a.x ≡ true → is_on_flat width c a b ≡ is_across width c b a
unfolding is_on_flat
flat_back width c a b back = rw back refl

pub flat_forth : (width : ℕ) (c a b : PositionValue) → is_less b.x a.x ≡ false → is_on_flat width c a b ≡ is_across width c a b
unfolding is_on_flat
flat_forth width c a b forth = rw forth refl

pub on_steep : (width : ℕ) (c : PositionValue) (s : Segment) → is_steep s.from s.to ≡ true → is_on width c s ≡ is_on_flat width (turned c) (turned s.from) (turned s.to)
unfolding is_on
on_steep width c s steep = rw steep refl

pub on_flat : (width : ℕ) (c : PositionValue) (s : Segment) → is_steep s.from s.to ≡ false → is_on width c s ≡ is_on_flat width c s.from s.to
unfolding is_on
on_flat width c s flat = rw flat refl
