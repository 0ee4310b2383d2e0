-- Two majorities of the same nodes share a node.
use Rattle.std.proofs.Common.{◌≡◌, ℕ, zero, suc, ◌+◌, ◌*◌, ◌<◌, Bool, true, false, refl, arith}
use Rattle.std.proofs.lemmas.Bool.{ltb-true}
use Rattle.wf_ballot.specs.Majority.{count_nodes, is_majority_of, Majority, IsShared}

-- the count of nodes below 0 is 0
pub count_nodes-zero : (nodes : ℕ → Bool) → count_nodes 0 nodes ≡ 0
unfolding count_nodes
count_nodes-zero nodes = refl

-- a next node that is in the set counts
pub count_nodes-in : (n : ℕ) (nodes : ℕ → Bool) → nodes n ≡ true → count_nodes (suc n) nodes ≡ count_nodes n nodes + 1
unfolding count_nodes
count_nodes-in n nodes is_in = rw is_in refl

-- a next node that isn't in the set doesn't count
pub count_nodes-out : (n : ℕ) (nodes : ℕ → Bool) → nodes n ≡ false → count_nodes (suc n) nodes ≡ count_nodes n nodes
unfolding count_nodes
count_nodes-out n nodes is_out = rw is_out (omega arith)

-- a majority, as an inequality
pub is_majority_of-true : (count n : ℕ) → is_majority_of count n ≡ true → n < 2 * count
unfolding is_majority_of
is_majority_of-true count n holds = ltb-true n (2 * count) holds

-- a node shared below n is shared below n + 1
widened : (n : ℕ) (a b : ℕ → Bool) → (i : ℕ) × IsShared n a b i → (i : ℕ) × IsShared (suc n) a b i
widened n a b (i, shared) =
    (i, record { is_node = omega (arith, shared.is_node); in_first = shared.in_first; in_second = shared.in_second })

-- One more node is in both sets, or it adds at most one member, and then the nodes before it share
-- one.
meet_with_next : (n : ℕ) (a b : ℕ → Bool) (in_a in_b : Bool) → a n ≡ in_a → b n ≡ in_b →
    (n < count_nodes n a + count_nodes n b → (i : ℕ) × IsShared n a b i) →
    suc n < count_nodes (suc n) a + count_nodes (suc n) b → (i : ℕ) × IsShared (suc n) a b i
meet_with_next n a b true true at_a at_b before more =
    (n, record { is_node = omega arith; in_first = at_a; in_second = at_b })
meet_with_next n a b true false at_a at_b before more =
    widened n a b (before (omega (arith, count_nodes-in n a at_a, count_nodes-out n b at_b, more)))
meet_with_next n a b false true at_a at_b before more =
    widened n a b (before (omega (arith, count_nodes-out n a at_a, count_nodes-in n b at_b, more)))
meet_with_next n a b false false at_a at_b before more =
    widened n a b (before (omega (arith, count_nodes-out n a at_a, count_nodes-out n b at_b, more)))

-- two sets with more members together than there are nodes share a node
pub sets_meet : (n : ℕ) (a b : ℕ → Bool) → n < count_nodes n a + count_nodes n b → (i : ℕ) × IsShared n a b i
sets_meet zero a b more = absurd (omega (arith, count_nodes-zero a, count_nodes-zero b, more))
sets_meet (suc n) a b more = meet_with_next n a b (a n) (b n) refl refl (sets_meet n a b) more

-- two majorities of the same nodes share a node
pub majority_sets_meet : (n : ℕ) (a b : ℕ → Bool) → is_majority_of (count_nodes n a) n ≡ true →
    is_majority_of (count_nodes n b) n ≡ true → (i : ℕ) × IsShared n a b i
majority_sets_meet n a b of_a of_b =
    sets_meet n a b
    (omega (arith, is_majority_of-true (count_nodes n a) n of_a, is_majority_of-true (count_nodes n b) n of_b))

-- P and Q, each true of a majority of the same nodes, are both true of some node
pub majorities_meet : (n : ℕ) (P Q : ℕ → Type 0) → Majority n P → Majority n Q → (i : ℕ) × ((i < n) × P i × Q i)
majorities_meet n P Q ps qs =
    let (i, shared) = majority_sets_meet n ps.nodes qs.nodes ps.is_majority qs.is_majority in
    (i, (shared.is_node, ps.each i shared.is_node shared.in_first, qs.each i shared.is_node shared.in_second))
