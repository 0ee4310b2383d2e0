-- What is known never falls when it is raised, and stays in its ranges.
use Rattle.std.proofs.Common.{◌≡◌, ◌⊎◌, inl, inr, ℕ, zero, suc, nat_lt, Bool, true, false, ◌&&◌, ◌||◌, refl, cond, arith}
use Rattle.std.specs.Prelude.{Option, Some, None, not, replicate}
use Rattle.hex.specs.Hex.{IsBytes}
use Rattle.std.proofs.lemmas.Grind.{common_steps}
use Rattle.wf_ballot.specs.Ballot.{Ballot, IsBallot, below}
use Rattle.wf_ballot.specs.OrderTheorems.{below-asymmetric, below-irreflexive, below-not_below, not_below-below, not_below-transitive}
use Rattle.wf_model.specs.DurableState.{raised}
use Rattle.wf_folder.specs.Reach.{IsKnown, IsReachNoLess, IsNoLower, IsNoLowerVote, IsPromise, IsReach, IsVote, IsVoteOrNone, higher_promise, higher_vote, nothing_known, raised_vote, together, vote_below}
use Rattle.wf_folder.specs.declared.reach.HighestVote.{HighestVote}
use Rattle.wf_folder.specs.declared.reach.Reach.{Reach}

not_below_self : (n : ℕ) → nat_lt n n ≡ false
not_below_self n = grind (arith, common_steps)

pub vote_below-irreflexive : (v : HighestVote) → vote_below v v ≡ false
unfolding vote_below
vote_below-irreflexive v = rw (below-irreflexive v.ballot) (not_below_self v.sequence)

by_tests : (x y a b : Bool) → (x ≡ true → y ≡ false) → (a ≡ true → b ≡ false) → x || (not y && a) ≡ true → y || (not x && b) ≡ false
by_tests true y a b xy ab e = rw (xy refl) refl
by_tests false true a b xy ab e = absurd cc
by_tests false false true b xy ab e = rw (ab refl) refl
by_tests false false false b xy ab e = absurd cc

numbers : (n m : ℕ) → nat_lt n m ≡ true → nat_lt m n ≡ false
numbers n m e = grind (arith, common_steps)

pub vote_below-asymmetric : (a b : HighestVote) → vote_below a b ≡ true → vote_below b a ≡ false
unfolding vote_below
vote_below-asymmetric a b e =
    by_tests (below a.ballot b.ballot) (below b.ballot a.ballot) (nat_lt a.sequence b.sequence) (nat_lt b.sequence a.sequence) (below-asymmetric a.ballot b.ballot) (numbers a.sequence b.sequence) e

parts : (p q t : Bool) → p || (not q && t) ≡ false → (p ≡ false) × ((q ≡ true) ⊎ (t ≡ false))
parts true q t e = absurd cc
parts false true t e = (refl, inl refl)
parts false false t e = (refl, inr e)

whole : (p q t : Bool) → p ≡ false → (q ≡ true) ⊎ (t ≡ false) → p || (not q && t) ≡ false
whole true q t p either = absurd cc
whole false true t p either = refl
whole false false t p either = elim either [ inl e ↦ absurd cc | inr e ↦ e ]

numbers_in_turn : (a b c : ℕ) → nat_lt b a ≡ false → nat_lt c b ≡ false → nat_lt c a ≡ false
numbers_in_turn a b c first second = grind (arith, common_steps)

in_turn : (a b c : HighestVote) → below b.ballot a.ballot ≡ false → below c.ballot b.ballot ≡ false →
    (below a.ballot b.ballot ≡ true) ⊎ (nat_lt b.sequence a.sequence ≡ false) → (below b.ballot c.ballot ≡ true) ⊎ (nat_lt c.sequence b.sequence ≡ false) →
    (below a.ballot c.ballot ≡ true) ⊎ (nat_lt c.sequence a.sequence ≡ false)
in_turn a b c not_first not_second first second = elim first [
  | inl less ↦ inl (below-not_below a.ballot b.ballot c.ballot less not_second)
  | inr no_later ↦ elim second [
    | inl less ↦ inl (not_below-below a.ballot b.ballot c.ballot not_first less)
    | inr none_later ↦ inr (numbers_in_turn a.sequence b.sequence c.sequence no_later none_later)
  ]
]

-- "not below" is transitive, too
pub not_vote_below-transitive : (a b c : HighestVote) → vote_below b a ≡ false → vote_below c b ≡ false → vote_below c a ≡ false
unfolding vote_below
not_vote_below-transitive a b c first second =
    let ab = parts (below b.ballot a.ballot) (below a.ballot b.ballot) (nat_lt b.sequence a.sequence) first in
    let bc = parts (below c.ballot b.ballot) (below b.ballot c.ballot) (nat_lt c.sequence b.sequence) second in
    whole (below c.ballot a.ballot) (below a.ballot c.ballot) (nat_lt c.sequence a.sequence) (not_below-transitive a.ballot b.ballot c.ballot ab.0 bc.0) (in_turn a b c ab.0 bc.0 ab.1 bc.1)

-- ---- a promise

pub no_lower_self : (promise : Option Ballot) → IsNoLower promise promise
no_lower_self None = tt
no_lower_self (Some b) = below-irreflexive b

no_lower_by : (p b : Ballot) (t : Bool) → below p b ≡ t → IsNoLower (Some p) (cond t (Some b) (Some p))
no_lower_by p b true above = below-asymmetric p b above
no_lower_by p b false above = below-irreflexive p

pub no_lower_raised : (promise : Option Ballot) (b : Ballot) → IsNoLower promise (raised promise b)
unfolding raised
no_lower_raised None b = tt
no_lower_raised (Some p) b = no_lower_by p b (below p b) refl

pub no_lower_both : (known claimed : Option Ballot) → IsNoLower known (higher_promise known claimed)
no_lower_both known None = no_lower_self known
no_lower_both known (Some b) = no_lower_raised known b

above_by : (p b : Ballot) (t : Bool) → below p b ≡ t → IsNoLower (Some b) (cond t (Some b) (Some p))
above_by p b true above = below-irreflexive b
above_by p b false above = above

above_raised : (promise : Option Ballot) (b : Ballot) → IsNoLower (Some b) (raised promise b)
unfolding raised
above_raised None b = below-irreflexive b
above_raised (Some p) b = above_by p b (below p b) refl

no_lower_claimed : (known claimed : Option Ballot) → IsNoLower claimed (higher_promise known claimed)
no_lower_claimed known None = tt
no_lower_claimed known (Some b) = above_raised known b

-- ---- a vote

pub no_lower_vote_self : (vote : Option HighestVote) → IsNoLowerVote vote vote
no_lower_vote_self None = tt
no_lower_vote_self (Some v) = vote_below-irreflexive v

no_lower_vote_by : (k v : HighestVote) (t : Bool) → vote_below k v ≡ t → IsNoLowerVote (Some k) (cond t (Some v) (Some k))
no_lower_vote_by k v true above = vote_below-asymmetric k v above
no_lower_vote_by k v false above = vote_below-irreflexive k

pub no_lower_vote_raised : (vote : Option HighestVote) (v : HighestVote) → IsNoLowerVote vote (raised_vote vote v)
no_lower_vote_raised None v = tt
no_lower_vote_raised (Some k) v = no_lower_vote_by k v (vote_below k v) refl

pub no_lower_vote_both : (known claimed : Option HighestVote) → IsNoLowerVote known (higher_vote known claimed)
no_lower_vote_both known None = no_lower_vote_self known
no_lower_vote_both known (Some v) = no_lower_vote_raised known v

above_vote_by : (k v : HighestVote) (t : Bool) → vote_below k v ≡ t → IsNoLowerVote (Some v) (cond t (Some v) (Some k))
above_vote_by k v true above = vote_below-irreflexive v
above_vote_by k v false above = above

above_vote_raised : (vote : Option HighestVote) (v : HighestVote) → IsNoLowerVote (Some v) (raised_vote vote v)
above_vote_raised None v = vote_below-irreflexive v
above_vote_raised (Some k) v = above_vote_by k v (vote_below k v) refl

no_lower_vote_claimed : (known claimed : Option HighestVote) → IsNoLowerVote claimed (higher_vote known claimed)
no_lower_vote_claimed known None = tt
no_lower_vote_claimed known (Some v) = above_vote_raised known v

-- ---- both together

pub by_together : (a b : Reach) → IsReachNoLess a (together a b)
by_together a b = record { tried = omega arith; promised = no_lower_both a.promise b.promise; voted = no_lower_vote_both a.vote b.vote; up_to = omega arith }

pub claimed_by_together : (a b : Reach) → IsReachNoLess b (together a b)
claimed_by_together a b = record { tried = omega arith; promised = no_lower_claimed a.promise b.promise; voted = no_lower_vote_claimed a.vote b.vote; up_to = omega arith }

raised_in_range : (p b : Ballot) (t : Bool) → IsBallot p → IsBallot b → IsPromise (cond t (Some b) (Some p))
raised_in_range p b true of_p of_b = of_b
raised_in_range p b false of_p of_b = of_p

promise_in_range : (a b : Option Ballot) → IsPromise a → IsPromise b → IsPromise (higher_promise a b)
unfolding raised
promise_in_range a None of_a of_b = of_a
promise_in_range None (Some b) of_a of_b = of_b
promise_in_range (Some a) (Some b) of_a of_b = raised_in_range a b (below a b) of_a of_b

vote_raised_in_range : (k v : HighestVote) (t : Bool) → IsVote k → IsVote v → IsVoteOrNone (cond t (Some v) (Some k))
vote_raised_in_range k v true of_k of_v = of_v
vote_raised_in_range k v false of_k of_v = of_k

vote_in_range : (a b : Option HighestVote) → IsVoteOrNone a → IsVoteOrNone b → IsVoteOrNone (higher_vote a b)
vote_in_range a None of_a of_b = of_a
vote_in_range None (Some b) of_a of_b = of_b
vote_in_range (Some a) (Some b) of_a of_b = vote_raised_in_range a b (vote_below a b) of_a of_b

pub is_known : (a b : Reach) → IsReach a → IsReach b → IsReach (together a b)
is_known a b of_a of_b = record {
  of_round = omega (arith, of_a.of_round, of_b.of_round);
  of_promise = promise_in_range a.promise b.promise of_a.of_promise of_b.of_promise;
  of_vote = vote_in_range a.vote b.vote of_a.of_vote of_b.of_vote;
  of_published = omega (arith, of_a.of_published, of_b.of_published);
}

zeros_are_bytes : (n : ℕ) → IsBytes (replicate n 0)
zeros_are_bytes zero i = omega arith
zeros_are_bytes (suc n) zero = omega arith
zeros_are_bytes (suc n) (suc i) = zeros_are_bytes n i

pub nothing_is_known : IsKnown nothing_known
nothing_is_known = record { of_reach = record { of_round = omega arith; of_promise = tt; of_vote = tt; of_published = omega arith }; bytes = zeros_are_bytes 32; size = refl }
