-- A node's highest vote, raised by one more.
use Rattle.std.proofs.Common.{◌≡◌, ℕ, Bool, true, false, Option, Some, None, refl, sym, subst, cond, ◌+◌, ◌≤◌, inl, inr, arith}
use Rattle.std.proofs.lemmas.Bool.{cases_lt}
use Rattle.wf_ballot.specs.Ballot.{Ballot}
use Rattle.wf_ballot.specs.Sequence.{IsSlot}
use Rattle.wf_def.specs.Definition.{Definition}
use Rattle.wf_folder.proofs.Raised.{no_lower_vote_raised, not_vote_below-transitive, vote_below-irreflexive}
use Rattle.wf_folder.specs.Reach.{IsNoLowerVote, raised_vote, vote_below}
use Rattle.wf_folder.specs.declared.reach.HighestVote.{HighestVote}
use Rattle.wf_voter.specs.Reach.{AreVotedUpTo, IsHighestUpTo, IsVoteOfNode}
use Rattle.wf_model.specs.DurableState.{DurableState}
use Rattle.wf_model.specs.Message.{Vote}

-- it is no lower than what it was
pub kept_raised : (highest : Option HighestVote) (v new : HighestVote) → Some new ≡ raised_vote highest v → IsNoLowerVote highest (Some new)
kept_raised highest v new is = subst (λ (o : Option HighestVote). IsNoLowerVote highest o) (sym is) (no_lower_vote_raised highest v)

-- and than the new one
raised_by : (known v : HighestVote) (t : Bool) → vote_below known v ≡ t → IsNoLowerVote (Some v) (cond t (Some v) (Some known))
raised_by known v true below = vote_below-irreflexive v
raised_by known v false below = below

raised_new : (highest : Option HighestVote) (v : HighestVote) → IsNoLowerVote (Some v) (raised_vote highest v)
raised_new None v = vote_below-irreflexive v
raised_new (Some known) v = raised_by known v (vote_below known v) refl

some_same : (v w : Vote Definition) → Some v ≡ Some w → v ≡ w
some_same v w same = cc

pub new_raised : (highest : Option HighestVote) (b : Ballot) (s : ℕ) (d : Definition) (new : HighestVote) (vote : Vote Definition) →
    Some new ≡ raised_vote highest (record { ballot = b; sequence = s }) → Some (record { ballot = b; definition = d }) ≡ Some vote →
    IsNoLowerVote (Some (record { ballot = vote.ballot; sequence = s })) (Some new)
new_raised highest b s d new vote is same =
    subst (λ (o : Option HighestVote). IsNoLowerVote (Some (record { ballot = vote.ballot; sequence = s })) o) (sym is)
    (subst (λ (v : Vote Definition). IsNoLowerVote (Some (record { ballot = v.ballot; sequence = s })) (raised_vote highest (record { ballot = b; sequence = s })))
    (some_same (record { ballot = b; definition = d }) vote same) (raised_new highest (record { ballot = b; sequence = s })))

-- and a vote of the node
either_vote : (stored : DurableState Definition) (known v : HighestVote) (t : Bool) → IsVoteOfNode stored (Some v) → IsVoteOfNode stored (Some known) → IsVoteOfNode stored (cond t (Some v) (Some known))
either_vote stored known v true new old = new
either_vote stored known v false new old = old

vote_raised : (stored : DurableState Definition) (highest : Option HighestVote) (v : HighestVote) → IsVoteOfNode stored (Some v) → IsVoteOfNode stored highest → IsVoteOfNode stored (raised_vote highest v)
vote_raised stored None v new old = new
vote_raised stored (Some known) v new old = either_vote stored known v (vote_below known v) new old

pub is_vote_raised : (stored : DurableState Definition) (highest : Option HighestVote) (b : Ballot) (s : ℕ) (d : Definition) (new : HighestVote) →
    Some new ≡ raised_vote highest (record { ballot = b; sequence = s }) → Some (record { ballot = b; definition = d }) ≡ stored.votes s → IsVoteOfNode stored highest → IsVoteOfNode stored (Some new)
is_vote_raised stored highest b s d new is at_s old =
    subst (λ (o : Option HighestVote). IsVoteOfNode stored o) (sym is)
    (vote_raised stored highest (record { ballot = b; sequence = s }) (record { ballot = b; definition = d }, sym at_s, refl) old)

-- ---- up to one sequence more

through : (x : HighestVote) (old new : Option HighestVote) → IsNoLowerVote (Some x) old → IsNoLowerVote old new → IsNoLowerVote (Some x) new
through x None new first second = absurd first
through x (Some o) None first second = absurd second
through x (Some o) (Some n) first second = not_vote_below-transitive x o n first second

pub one_more : (stored : DurableState Definition) (n : ℕ) (old new : Option HighestVote) → IsHighestUpTo stored n old → IsNoLowerVote old new
    → (IsSlot (n + 1) → (vote : Vote Definition) → stored.votes (n + 1) ≡ Some vote → IsNoLowerVote (Some (record { ballot = vote.ballot; sequence = n + 1 })) new)
    → IsHighestUpTo stored (n + 1) new
one_more stored n old new before kept at = λ s vote slot up is. elim (cases_lt n s) [
  | inl later ↦
      let e : s ≡ n + 1 = omega (arith, later, up) in
      subst (λ (t : ℕ). IsSlot t → stored.votes t ≡ Some vote → IsNoLowerVote (Some (record { ballot = vote.ballot; sequence = t })) new) (sym e) (λ slot' is'. at slot' vote is') slot is
  | inr earlier ↦ through (record { ballot = vote.ballot; sequence = s }) old new (before s vote slot earlier is) kept
]

-- up to one sequence more, by the sequences of votes
pub one_more_voted : (stored : DurableState Definition) (n old new : ℕ) → AreVotedUpTo stored n old → old ≤ new
    → (IsSlot (n + 1) → (vote : Vote Definition) → stored.votes (n + 1) ≡ Some vote → new ≡ n + 1) → AreVotedUpTo stored (n + 1) new
one_more_voted stored n old new before kept at = λ s vote slot up is. elim (cases_lt n s) [
  | inl later ↦
      let e : s ≡ n + 1 = omega (arith, later, up) in
      let here : new ≡ n + 1 = subst (λ (t : ℕ). IsSlot t → stored.votes t ≡ Some vote → new ≡ n + 1) (sym e) (λ slot' is'. at slot' vote is') slot is in
      omega (arith, e, here)
  | inr earlier ↦ let up_to = before s vote slot earlier is in omega (arith, up_to, kept)
]
