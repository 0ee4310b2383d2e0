-- The bytes in slots, slot by slot.
use Rattle.std.proofs.Common.{◌≡◌, ◌<◌, ◌+◌, ◌^◌, ◌-◌, ℕ, suc, zero, List, [], ◌∷◌, Option, None, length, min, take, arith, slice_index_or, inl, inr, refl}
use Rattle.std.proofs.lemmas.Bool.{cases_lt}
use Rattle.wf_client.specs.Client.{Client, weight_at, weight_in}

pub weight_more : (slots : List (Option Client)) (n : ℕ) → n < length slots
    → weight_in (take (n + 1) slots) ≡ weight_in (take n slots) + weight_at (slice_index_or slots n None)
weight_more [] n l = omega arith
weight_more (x ∷ slots) zero l = grind arith
weight_more (x ∷ slots) (suc n) l = let e : weight_in (take (n + 1) slots) ≡ weight_in (take n slots) + weight_at (slice_index_or slots n None) = weight_more slots n (omega arith) in grind arith

-- a bound on the sum so far doesn't matter for a bound on the sum
pub bounded_twice : (a b m : ℕ) → min (min a m + b) m ≡ min (a + b) m
bounded_twice a b m = elim (cases_lt a m) [ inl below ↦ (let e : min a m ≡ a = omega arith in rw e refl) | inr above ↦ omega arith ]

pub sum_more : (slots : List (Option Client)) (n sum more next : ℕ) → n < length slots
    → sum ≡ min (weight_in (take n slots)) (2 ^ 64 - 1) → more ≡ weight_at (slice_index_or slots n None)
    → next ≡ min (sum + more) (2 ^ 64 - 1) → next ≡ min (weight_in (take (n + 1) slots)) (2 ^ 64 - 1)
sum_more slots n sum more next l so_far one bound =
    let e : weight_in (take (n + 1) slots) ≡ weight_in (take n slots) + weight_at (slice_index_or slots n None) = weight_more slots n l in
    rw e (rw bound (rw so_far (rw one (bounded_twice (weight_in (take n slots)) (weight_at (slice_index_or slots n None)) (2 ^ 64 - 1)))))
