-- Bytes that read as the records by which definitions are published hold a copy of these.
use Rattle.std.proofs.Common.{◌≡◌, ℕ, zero, suc, ◌+◌, true, List, [], ◌∷◌, slice_get, Some, refl, sym, ap, subst, ◌∙◌, inl, inr, arith}
use Rattle.std.proofs.lemmas.Option.{none-some, same_Some}
use Rattle.wf_ballot.specs.Ballot.{Ballot}
use Rattle.wf_ballot.specs.Majority.{count_nodes, is_majority_of}
use Rattle.wf_def.specs.Definition.{Definition}
use Rattle.wf_model.specs.Chosen.{Voted, IsChosen}
use Rattle.wf_model.specs.DurableState.{definition_at}
use Rattle.wf_model.specs.Message.{Message, Accept, Accepted}
use Rattle.wf_safety.specs.Replacement.{published_from, CopiedTapes}
use Rattle.wf_replacement.specs.Rejoining.{CopiesAreHeld}

-- Any definitions are chosen by the votes of a farm of one node, so what is known of tapes of
-- chosen definitions holds of all.
ballot : Ballot
ballot = record { round = 1; node = 0 }

votes : ℕ → List Definition → List (Message Definition)
votes s [] = []
votes s (d ∷ definitions) = Accepted 0 s ballot ∷ Accept s ballot d ∷ votes (suc s) definitions

voted : (s t k : ℕ) (definitions : List Definition) (d : Definition) → t ≡ s + k → slice_get definitions k ≡ Some d → Voted (votes s definitions) t ballot d 0
unfolding votes
voted s t k [] d e at = absurd (none-some d at)
voted s t zero (first ∷ definitions) d e at =
    let here : t ≡ s = omega (arith, e) in
    record { stated = inl (ap (λ x. Accepted 0 x ballot) here); asked = inr (inl (ap (λ x. Accept x ballot d) here ∙ ap (λ c. Accept s ballot c) (sym (same_Some first d at)))) }
voted s t (suc k) (first ∷ definitions) d e at =
    let later = voted (suc s) t k definitions d (omega (arith, e)) at in
    record { stated = inr (inr later.stated); asked = inr (inr later.asked) }

chosen_by : (definitions : List Definition) (s : ℕ) (d : Definition) → definition_at definitions s ≡ Some d → IsChosen 1 (votes 1 definitions) s d
unfolding definition_at count_nodes is_majority_of
chosen_by definitions zero d at = absurd (none-some d at)
chosen_by definitions (suc k) d at = record {
  ballot = ballot;
  majority = record {
    nodes = λ i. true;
    is_majority = refl;
    each = λ i less all. let only : 0 ≡ i = omega (arith, less) in subst (Voted (votes 1 definitions) (suc k) ballot d) only (voted 1 (suc k) k definitions d (omega arith) at);
  };
}

pub copies_are_held : CopiedTapes Definition → CopiesAreHeld
copies_are_held theorem = λ bytes definitions reads.
    let so = theorem 1 (votes 1 definitions) definitions (chosen_by definitions) in
    record {
      holds = record { stored = so.stored; stands = record { records = published_from 1 definitions; reads = reads; folds = so.folded }; copy = so.chosen_alone.copy };
      history = so.history;
    }
