-- What a start writes to the file `farm` is held by what its node has stored.
use Rattle.std.proofs.Common.{arith, ◌≡◌, ◌≤◌, ◌∙◌, ℕ, Bool, true, false, List, length, refl, sym, ap}
use Rattle.std.proofs.lemmas.Bool.{le-leb, ltb-true, ltb-false}
use Rattle.std.specs.Prelude.{Option, Some, None, max, nat_le, nat_lt, if◌then◌else◌}
use Rattle.wf_ballot.specs.Ballot.{Ballot, below}
use Rattle.wf_ballot.specs.OrderTheorems.{below-irreflexive}
use Rattle.wf_def.specs.Definition.{Definition}
use Rattle.wf_digest.specs.Digest.{digest_at}
use Rattle.wf_folder.proofs.Raised.{vote_below-irreflexive}
use Rattle.wf_folder.specs.NodeAdmission.{IsTapeAdmitted}
use Rattle.wf_folder.specs.NodeFile.{raised_known}
use Rattle.wf_folder.specs.Reach.{IsNoLower, IsNoLowerVote, higher_promise, higher_vote, open_vote, raised_vote, vote_below}
use Rattle.wf_folder.specs.declared.reach.HighestVote.{HighestVote}
use Rattle.wf_folder.specs.declared.reach.Known.{Known}
use Rattle.wf_folder.specs.declared.reach.Reach.{Reach}
use Rattle.wf_model.specs.DurableState.{DurableState, raised}
use Rattle.wf_node_folder.specs.Held.{HasReached, HoldsAll, digest_up_to}

-- ---- the promise

promise_by : (p b : Ballot) (t : Bool) → below b p ≡ false → IsNoLower (if t then Some b else Some p) (Some b)
promise_by p b true no_lower = below-irreflexive b
promise_by p b false no_lower = no_lower

raised_promise : (known : Option Ballot) (b : Ballot) → IsNoLower known (Some b) → IsNoLower (raised known b) (Some b)
unfolding raised
raised_promise None b no_lower = below-irreflexive b
raised_promise (Some p) b no_lower = promise_by p b (below p b) no_lower

promise_held : (known promise : Option Ballot) → IsNoLower known promise → IsNoLower (higher_promise known promise) promise
promise_held known None no_lower = no_lower
promise_held known (Some b) no_lower = raised_promise known b no_lower

-- ---- the vote

own_vote : (v : HighestVote) (is_open : Bool) → IsNoLowerVote (if is_open then Some v else None) (Some v)
own_vote v true = vote_below-irreflexive v
own_vote v false = tt

vote_by : (k v : HighestVote) (published : ℕ) (t : Bool) → IsNoLowerVote (open_vote (Some k) published) (Some v) → IsNoLowerVote (open_vote (if t then Some v else Some k) published) (Some v)
vote_by k v published true no_lower = own_vote v (nat_lt published v.sequence)
vote_by k v published false no_lower = no_lower

raised_vote_held : (known : Option HighestVote) (v : HighestVote) (published : ℕ) → IsNoLowerVote (open_vote known published) (Some v) → IsNoLowerVote (open_vote (raised_vote known v) published) (Some v)
raised_vote_held None v published no_lower = own_vote v (nat_lt published v.sequence)
raised_vote_held (Some k) v published no_lower = vote_by k v published (vote_below k v) no_lower

vote_held : (known vote : Option HighestVote) (published : ℕ) → IsNoLowerVote (open_vote known published) vote → IsNoLowerVote (open_vote (higher_vote known vote) published) vote
vote_held known None published no_lower = no_lower
vote_held known (Some v) published no_lower = raised_vote_held known v published no_lower

-- ---- the digest

-- that at the later of two sequences, of which the second one is the history's last
digest_held : (history : List Definition) (first second : ℕ) (digest last : List ℕ) → second ≡ length history → first ≤ second → digest_up_to history first ≡ Some digest
    → last ≡ digest_at history (length history) → digest_up_to history (max first second) ≡ Some (if nat_lt first second then last else digest)
digest_held history first second digest last up_to order is is_last = by_order (nat_lt first second) refl
  where
    whole : nat_le (length history) (length history) ≡ true
    whole = le-leb (length history) (length history) (omega arith)

    end : digest_up_to history second ≡ Some last
    end = ap (digest_up_to history) up_to ∙ ap (λ (t : Bool). if t then Some (digest_at history (length history)) else None) whole ∙ ap Some (sym is_last)

    later : nat_lt first second ≡ true → max first second ≡ second
    later less = omega (arith, ltb-true first second less)

    earlier : nat_lt first second ≡ false → max first second ≡ first
    earlier no_less = omega (arith, order, ltb-false first second no_less)

    by_order : (t : Bool) → nat_lt first second ≡ t → digest_up_to history (max first second) ≡ Some (if t then last else digest)
    by_order true less = ap (digest_up_to history) (later less) ∙ end
    by_order false no_less = ap (digest_up_to history) (earlier no_less) ∙ is

-- ---- all of it

-- a stored state that holds what was known holds it too once it is raised to how far the state goes
pub raised_held : (known : Known) (stored : DurableState Definition) (reach : Reach) (last : List ℕ) → HasReached stored reach → last ≡ digest_at stored.history (length stored.history)
    → IsTapeAdmitted known reach (digest_up_to stored.history known.reach.published) → HoldsAll (raised_known known reach last) stored
raised_held known stored reach last has is_last admitted = record {
  reach = reach;
  is_reach = has;
  admitted = record {
    up_to = omega (arith, admitted.up_to);
    same_history = digest_held stored.history known.reach.published reach.published known.digest last has.up_to admitted.up_to admitted.same_history is_last;
    tried = omega (arith, admitted.tried);
    promised = promise_held known.reach.promise reach.promise admitted.promised;
    voted = vote_held known.reach.vote reach.vote reach.published admitted.voted;
  };
}
