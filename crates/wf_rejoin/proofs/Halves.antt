-- Two halves of the nodes, in neither of which one of them is, share a node.
use Rattle.std.proofs.Common.{◌≡◌, ◌⊎◌, ℕ, zero, suc, ◌+◌, ◌<◌, ◌≤◌, Bool, true, false, inl, inr, refl, ap, subst, arith}
use Rattle.wf_ballot.specs.Majority.{count_nodes, IsShared}
use Rattle.wf_ballot.specs.QuorumTheorems.{count_nodes-in, count_nodes-out, sets_meet}

true_isnt_false : true ≡ false → ⊥
true_isnt_false e = absurd cc

widened : (n : ℕ) (a b : ℕ → Bool) → (x : ℕ) × IsShared n a b x → (x : ℕ) × IsShared (suc n) a b x
widened n a b (x, shared) = (x, record { is_node = omega (arith, shared.is_node); in_first = shared.in_first; in_second = shared.in_second })

-- the last node is the one that is in neither
without_last : (n : ℕ) (a b : ℕ → Bool) → a n ≡ false → b n ≡ false → suc n ≤ count_nodes (suc n) a + count_nodes (suc n) b → (x : ℕ) × IsShared (suc n) a b x
without_last n a b out_a out_b enough =
    widened n a b (sets_meet n a b (omega (arith, enough, count_nodes-out n a out_a, count_nodes-out n b out_b)))

-- the last node is another one: it is in both, or in one at most
with_last : (n : ℕ) (a b : ℕ → Bool) (in_a in_b : Bool) → a n ≡ in_a → b n ≡ in_b → (n ≤ count_nodes n a + count_nodes n b → (x : ℕ) × IsShared n a b x) →
    suc n ≤ count_nodes (suc n) a + count_nodes (suc n) b → (x : ℕ) × IsShared (suc n) a b x
with_last n a b true true at_a at_b before enough = (n, record { is_node = omega arith; in_first = at_a; in_second = at_b })
with_last n a b true false at_a at_b before enough = widened n a b (before (omega (arith, enough, count_nodes-in n a at_a, count_nodes-out n b at_b)))
with_last n a b false true at_a at_b before enough = widened n a b (before (omega (arith, enough, count_nodes-out n a at_a, count_nodes-in n b at_b)))
with_last n a b false false at_a at_b before enough = widened n a b (before (omega (arith, enough, count_nodes-out n a at_a, count_nodes-out n b at_b)))

last_or_before : (i n : ℕ) → i < suc n → (i ≡ n) ⊎ (i < n)
last_or_before zero zero below = inl refl
last_or_before zero (suc n) below = inr (omega arith)
last_or_before (suc i) zero below = absurd (omega (arith, below))
last_or_before (suc i) (suc n) below = elim (last_or_before i n (omega (arith, below))) [
  | inl same ↦ inl (ap suc same)
  | inr less ↦ inr (omega (arith, less))
]

pub halves_meet : (n i : ℕ) (a b : ℕ → Bool) → i < n → a i ≡ false → b i ≡ false → n ≤ count_nodes n a + count_nodes n b → (x : ℕ) × IsShared n a b x
halves_meet zero i a b below out_a out_b enough = absurd (omega (arith, below))
halves_meet (suc n) i a b below out_a out_b enough = elim (last_or_before i n below) [
  | inl same ↦ without_last n a b (subst (λ (k : ℕ). a k ≡ false) same out_a) (subst (λ (k : ℕ). b k ≡ false) same out_b) enough
  | inr less ↦ with_last n a b (a n) (b n) refl refl (halves_meet n i a b less out_a out_b) enough
]
