-- The order of ballots is total and well-founded.
use Rattle.std.proofs.Common.{◌≡◌, ℕ, zero, suc, ◌<◌, ◌≤◌, ◌⊎◌, Bool, true, false, refl, inl, inr, arith, ap, ◌∙◌}
use Rattle.std.proofs.lemmas.Grind.{common_steps}
use Rattle.std.proofs.lemmas.Bool.{cases_lt}
use Rattle.wf_ballot.specs.Ballot.{Ballot, below}

-- the order of numbers if the test is true
pub below-true : (a b : Ballot) → below a b ≡ true → (a.round < b.round) ⊎ ((a.round ≡ b.round) × (a.node < b.node))
unfolding below
below-true a b holds = grind (arith, common_steps)

-- the order of numbers if the test is false
pub below-false : (a b : Ballot) → below a b ≡ false → (b.round < a.round) ⊎ ((b.round ≡ a.round) × (b.node ≤ a.node))
unfolding below
below-false a b fails = grind (arith, common_steps)

-- a ballot of an earlier round is below
pub below-round : (a b : Ballot) → a.round < b.round → below a b ≡ true
unfolding below
below-round a b earlier = grind (arith, common_steps)

-- a ballot of the same round and a lower node is below
pub below-node : (a b : Ballot) → a.round ≡ b.round → a.node < b.node → below a b ≡ true
unfolding below
below-node a b same_round lesser = grind (arith, common_steps)

-- the round never falls from a ballot to one that isn't below it
pub not_below-round : (a b : Ballot) → below b a ≡ false → a.round ≤ b.round
not_below-round a b not_less = omega (arith, below-false b a not_less)

-- no ballot is below itself
pub below-irreflexive : (a : Ballot) → below a a ≡ false
unfolding below
below-irreflexive a = grind (arith, common_steps)

-- of two ballots at most one is below the other
pub below-asymmetric : (a b : Ballot) → below a b ≡ true → below b a ≡ false
unfolding below
below-asymmetric a b less = grind (arith, common_steps)

pub below-transitive : (a b c : Ballot) → below a b ≡ true → below b c ≡ true → below a c ≡ true
unfolding below
below-transitive a b c first second = grind (arith, common_steps)

-- "not below" is transitive too
pub not_below-transitive : (a b c : Ballot) → below b a ≡ false → below c b ≡ false → below c a ≡ false
unfolding below
not_below-transitive a b c first second = grind (arith, common_steps)

-- a is below b, and c isn't below b
pub below-not_below : (a b c : Ballot) → below a b ≡ true → below c b ≡ false → below a c ≡ true
unfolding below
below-not_below a b c first second = grind (arith, common_steps)

-- b isn't below a, and b is below c
pub not_below-below : (a b c : Ballot) → below b a ≡ false → below b c ≡ true → below a c ≡ true
unfolding below
not_below-below a b c first second = grind (arith, common_steps)

-- a ballot is determined by its two numbers
pub same_ballot : (a b : Ballot) → a.round ≡ b.round → a.node ≡ b.node → a ≡ b
same_ballot a b same_round same_node =
    let with_round : ℕ → Ballot = λ r. record { round = r; node = a.node } in
    let with_node : ℕ → Ballot = λ n. record { round = b.round; node = n } in
    ap with_round same_round ∙ ap with_node same_node

-- two ballots are equal if neither is below the other
pub not_below-antisymmetric : (a b : Ballot) → below a b ≡ false → below b a ≡ false → a ≡ b
not_below-antisymmetric a b first second =
    let rounds : a.round ≡ b.round = omega (arith, below-false a b first, below-false b a second) in
    let nodes : a.node ≡ b.node = omega (arith, below-false a b first, below-false b a second) in
    same_ballot a b rounds nodes

-- the two results of the test, whichever they are
compared : (a b : Ballot) (first second : Bool) → below a b ≡ first → below b a ≡ second →
    (below a b ≡ true) ⊎ ((a ≡ b) ⊎ (below b a ≡ true))
compared a b true second is_first is_second = inl is_first
compared a b false true is_first is_second = inr (inr is_second)
compared a b false false is_first is_second = inr (inl (not_below-antisymmetric a b is_first is_second))

-- of two ballots one is below the other, or they are equal
pub below-total : (a b : Ballot) → (below a b ≡ true) ⊎ ((a ≡ b) ⊎ (below b a ≡ true))
below-total a b = compared a b (below a b) (below b a) refl refl

-- Induction: a property that each ballot has if all those below it do, all ballots have. The proof
-- is by rounds, and in a round by nodes. `in_round` has it for the nodes below m of round r,
-- `in_rounds` for all rounds below n.
in_round : (P : Ballot → Type 0) → ((b : Ballot) → ((a : Ballot) → below a b ≡ true → P a) → P b) →
    (n : ℕ) → ((a : Ballot) → a.round < n → P a) → (m : ℕ) (b : Ballot) → b.round ≡ n → b.node < m → P b
in_round P step n earlier zero b at_n in_m = absurd (omega (arith, in_m))
in_round P step n earlier (suc m) b at_n in_m =
    let from_below : (a : Ballot) → (a.round < b.round) ⊎ ((a.round ≡ b.round) × (a.node < b.node)) → P a =
    λ a order. elim order [
      | inl sooner ↦ earlier a (omega (arith, sooner, at_n))
      | inr same ↦ in_round P step n earlier m a (omega (arith, same.0, at_n)) (omega (arith, same.1, in_m))
    ] in
    step b (λ a is_below. from_below a (below-true a b is_below))

in_rounds : (P : Ballot → Type 0) → ((b : Ballot) → ((a : Ballot) → below a b ≡ true → P a) → P b) →
    (n : ℕ) (b : Ballot) → b.round < n → P b
in_rounds P step zero b in_n = absurd (omega (arith, in_n))
in_rounds P step (suc n) b in_n =
    elim (cases_lt b.round n) [
      | inl sooner ↦ in_rounds P step n b sooner
      | inr last ↦ in_round P step n (in_rounds P step n) (suc b.node) b (omega (arith, last, in_n)) (omega arith)
    ]

pub below-induction : (P : Ballot → Type 0) → ((b : Ballot) → ((a : Ballot) → below a b ≡ true → P a) → P b) →
    (b : Ballot) → P b
below-induction P step b = in_rounds P step (suc b.round) b (omega arith)
