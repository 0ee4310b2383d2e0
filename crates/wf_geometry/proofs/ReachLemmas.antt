-- Where edges cross a row: how far to the right, and how many of them reach beyond each column.
use Rattle.std.proofs.Common.{◌≡◌, ℕ, zero, suc, ◌+◌, ◌*◌, ◌<◌, ◌≤◌, ◌||◌, Bool, true, false, cond, nat_lt, List, [], ◌∷◌, ◌++◌, take, length, get_or, ℤ, pos, negsuc, ◌+ℤ◌, ◌-ℤ◌, ◌*ℤ◌, ◌≤ℤ◌, refl, sym, ap, ◌∙◌, arith}
use Rattle.std.specs.List.{All, count_by}
use Rattle.std.proofs.lemmas.Bool.{le-ltb}
use Rattle.std.proofs.lemmas.Int.{ints}
use Rattle.std.proofs.Math.IntN.{suc_ℤ-*ℤ, *ℤ_comm, *ℤ-zero}
use Rattle.std.proofs.lemmas.List.Sums.{sum_by_push, sum_by_more}
use Rattle.std.proofs.lemmas.List.Elements.{All-nil, All-push}
use Rattle.wf_geometry.specs.Exact.{plus, difference, product, is_less}
use Rattle.wf_geometry.specs.Position.{PositionValue, middle, centre}
use Rattle.wf_geometry.specs.Coverage.{run, rise, is_left_of, is_beside, meets, crosses}
use Rattle.wf_geometry.specs.declared.operation.Segment.{Segment}
use Rattle.wf_geometry.specs.Limit.{half_side, pixel_side}

or_false : (b : Bool) → (b || false) ≡ b
or_false true = refl
or_false false = refl

-- ---- one edge

-- it goes up where the level lies between its ends
pub beside_rises : (c low high : PositionValue) → is_beside c low high ≡ true → pos 1 ≤ℤ difference high.y low.y
unfolding is_beside is_less difference
beside_rises c low high beside = grind (arith, ints)

-- whether it does depends only on y
pub beside_alike : (x z y : ℤ) (low high : PositionValue) → is_beside (record { x = x; y = y }) low high ≡ is_beside (record { x = z; y = y }) low high
unfolding is_beside
beside_alike x z y low high = refl

times_suc : (a : ℤ) (r : ℕ) → a *ℤ pos (suc r) ≡ a *ℤ pos r +ℤ a
times_suc a r = *ℤ_comm a (pos (suc r)) ∙ suc_ℤ-*ℤ (pos r) a ∙ ap (λ (z : ℤ). z +ℤ a) (*ℤ_comm (pos r) a)

sum_times : (a b : ℤ) (r : ℕ) → (a +ℤ b) *ℤ pos r ≡ a *ℤ pos r +ℤ b *ℤ pos r
sum_times a b zero =
    let sum = *ℤ-zero (a +ℤ b) in
    let left = *ℤ-zero a in
    let right = *ℤ-zero b in
    omega (arith, ints)
sum_times a b (suc r) =
    let sum = times_suc (a +ℤ b) r in
    let left = times_suc a r in
    let right = times_suc b r in
    let rest = sum_times a b r in
    omega (arith, ints)

sum_less : (a b c : ℤ) → is_less (a +ℤ b) c ≡ is_less a (c -ℤ b)
unfolding is_less
sum_less a b c = grind (arith, ints)

-- a positive number of steps further: the product is that many products more
less_steps : (start shift rise bound : ℤ) (u : ℕ) → pos 1 ≤ℤ rise →
    is_less (product (difference (plus (product (pos pixel_side) (pos u)) shift) start) rise) bound
    ≡ is_less (product (product (pos pixel_side) rise) (pos u)) (difference bound (product (difference shift start) rise))
unfolding product difference plus is_less
less_steps start shift (pos r) bound u some =
    let apart : (pos pixel_side *ℤ pos u +ℤ shift) -ℤ start ≡ pos pixel_side *ℤ pos u +ℤ (shift -ℤ start) = omega (arith, ints) in
    let turned : pixel_side * u * r ≡ pixel_side * r * u = omega arith in
    ap (λ (z : ℤ). is_less (z *ℤ pos r) bound) apart
    ∙ ap (λ (z : ℤ). is_less z bound) (sum_times (pos pixel_side *ℤ pos u) (shift -ℤ start) r)
    ∙ sum_less (pos pixel_side *ℤ pos u *ℤ pos r) ((shift -ℤ start) *ℤ pos r) bound
    ∙ ap (λ (n : ℕ). is_less (pos n) (bound -ℤ (shift -ℤ start) *ℤ pos r)) turned
less_steps start shift (negsuc r) bound u some = absurd (omega (arith, ints))

-- the columns left of it are those with few enough steps of its rise
pub left_steps : (level : ℤ) (u : ℕ) (low high : PositionValue) → pos 1 ≤ℤ difference high.y low.y →
    is_left_of (record { x = middle (pos u); y = level }) low high
    ≡ is_less (product (product (pos pixel_side) (difference high.y low.y)) (pos u)) (difference (product (difference level low.y) (difference high.x low.x)) (product (difference (pos half_side) low.x) (difference high.y low.y)))
unfolding is_left_of run rise
left_steps level u low high some = less_steps low.x (pos half_side) (difference high.y low.y) (product (difference level low.y) (difference high.x low.x)) u some

pub rise_steps : (rise : ℤ) → pos 1 ≤ℤ rise → pos 1 ≤ℤ product (pos pixel_side) rise
unfolding product
rise_steps rise up = omega (arith, ints)

-- ---- one segment, either way round

module _ (level x : ℤ) (from to : PositionValue) where
  one_way : is_beside (record { x = x; y = level }) from to ≡ true → is_beside (record { x = x; y = level }) to from ≡ false
  unfolding is_beside is_less
  one_way beside = grind (arith, ints)

  pub crosses_rising : is_beside (record { x = pos 0; y = level }) from to ≡ true →
      crosses (record { x = x; y = level }) (record { from = from; to = to }) ≡ is_left_of (record { x = x; y = level }) from to
  unfolding crosses meets
  crosses_rising beside =
      let here : is_beside (record { x = x; y = level }) from to ≡ true = beside_alike x (pos 0) level from to ∙ beside in
      let other = one_way here in
      rw (here, other) (or_false (is_left_of (record { x = x; y = level }) from to))

  pub crosses_falling : is_beside (record { x = pos 0; y = level }) from to ≡ false → is_beside (record { x = pos 0; y = level }) to from ≡ true →
      crosses (record { x = x; y = level }) (record { from = from; to = to }) ≡ is_left_of (record { x = x; y = level }) to from
  unfolding crosses meets
  crosses_falling beside other =
      let here : is_beside (record { x = x; y = level }) from to ≡ false = beside_alike x (pos 0) level from to ∙ beside in
      let there : is_beside (record { x = x; y = level }) to from ≡ true = beside_alike x (pos 0) level to from ∙ other in
      rw (here, there) refl

  pub crosses_none : is_beside (record { x = pos 0; y = level }) from to ≡ false → is_beside (record { x = pos 0; y = level }) to from ≡ false →
      crosses (record { x = x; y = level }) (record { from = from; to = to }) ≡ false
  unfolding crosses meets
  crosses_none beside other =
      let here : is_beside (record { x = x; y = level }) from to ≡ false = beside_alike x (pos 0) level from to ∙ beside in
      let there : is_beside (record { x = x; y = level }) to from ≡ false = beside_alike x (pos 0) level to from ∙ other in
      rw (here, there) refl

-- ---- the reaches of a row

-- each column is left of as many reaches as of edges that cross the row
pub record IsReaches (row width : ℕ) (edges : List Segment) (reaches : List ℕ) : Type 0 where
  pub within : All (λ reach. reach ≤ width) reaches
  pub count : (u : ℕ) → u < width → count_by (nat_lt u) reaches ≡ count_by (crosses (centre (pos u) (pos row))) edges

pub reaches_none : (row width : ℕ) → IsReaches row width [] []
reaches_none row width = record { within = All-nil (λ reach. reach ≤ width); count = λ u within. refl }

module _ (row width : ℕ) (edges : List Segment) (i reach : ℕ) (d : Segment) (reaches : List ℕ) where
  pub reaches_more : i < length edges → reach ≤ width → ((u : ℕ) → u < width → crosses (centre (pos u) (pos row)) (get_or edges i d) ≡ nat_lt u reach) →
      IsReaches row width (take i edges) reaches → IsReaches row width (take (i + 1) edges) (reaches ++ reach ∷ [])
  reaches_more here small crossed before = record {
    within = All-push (λ r. r ≤ width) reaches reach before.within small;
    count = λ u within.
        sum_by_push (λ r. cond (nat_lt u r) 1 0) reaches reach
        ∙ ap (λ (n : ℕ). n + cond (nat_lt u reach) 1 0) (before.count u within)
        ∙ ap (λ (b : Bool). count_by (crosses (centre (pos u) (pos row))) (take i edges) + cond b 1 0) (sym (crossed u within))
        ∙ sym (sum_by_more (λ edge. cond (crosses (centre (pos u) (pos row)) edge) 1 0) edges i d here);
  }

  pub reaches_skip : i < length edges → reach ≤ 0 → ((u : ℕ) → u < width → crosses (centre (pos u) (pos row)) (get_or edges i d) ≡ nat_lt u reach) →
      IsReaches row width (take i edges) reaches → IsReaches row width (take (i + 1) edges) reaches
  reaches_skip here none crossed before = record {
    within = before.within;
    count = λ u within.
        before.count u within
        ∙ omega arith
        ∙ ap (λ (b : Bool). count_by (crosses (centre (pos u) (pos row))) (take i edges) + cond b 1 0) (sym (crossed u within ∙ le-ltb u reach (omega arith)))
        ∙ sym (sum_by_more (λ edge. cond (crosses (centre (pos u) (pos row)) edge) 1 0) edges i d here);
  }
