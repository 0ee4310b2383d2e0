-- The proof of agreement, from the messages' facts alone: what was chosen at a ballot is carried by
-- each Accept at a later one.
use Rattle.std.proofs.Common.{◌≡◌, ◌⊎◌, ℕ, Bool, true, false, List, Option, Some, None, sym, subst, ◌∙◌, inl, inr}
use Rattle.std.proofs.lemmas.Bool.{both_ways}
use Rattle.wf_ballot.specs.Ballot.{Ballot, below}
use Rattle.wf_ballot.specs.Majority.{Majority}
use Rattle.wf_ballot.specs.OrderTheorems.{below-total, below-induction, not_below-transitive}
use Rattle.wf_ballot.specs.QuorumTheorems.{majorities_meet}
use Rattle.wf_model.specs.Message.{Vote, Message, Accept}
use Rattle.wf_model.specs.Chosen.{IsIn, Voted, IsChosen}
use Rattle.wf_safety.specs.Theorems.{VoteNotBelow, AreReportsWithin, HasPromised, IsReported, BestIsReported, IsVoteCarried, IsBacked}
use Rattle.wf_safety.proofs.Facts.{MessageFacts}

module _ {V : Type 0} (n : ℕ) (sent : List (Message V)) (facts : MessageFacts n sent) (s : ℕ) (b : Ballot) (d : V) (chosen : Majority n (Voted sent s b d)) where
  -- the Accept at the ballot at which d was chosen
  asked : IsIn (Accept s b d) sent
  asked =
      let (i, (is_node, first, second)) = majorities_meet n (Voted sent s b d) (Voted sent s b d) chosen chosen in
      first.asked

  -- a later Accept carries d, if those between do
  abbrev Carries : Ballot → Type 0
  Carries c = (e : V) → below b c ≡ true → IsIn (Accept s c e) sent → e ≡ d

  -- The best reported vote isn't below b: some node both voted at b and promised at c, and reported
  -- that vote or a later one. So it is the vote at b, or a later Accept carried it.
  of_best : (base : ℕ) (c : Ballot) (e : V) (best : Vote V) → ((a : Ballot) → below a c ≡ true → Carries a) → below best.ballot b ≡ false → (nodes : ℕ → Bool) →
      IsReported sent base s c nodes best → e ≡ best.definition → e ≡ d
  of_best base c e best earlier not_below nodes reports carried =
      let asked_best : IsIn (Accept s best.ballot best.definition) sent = facts.reported_asked reports.teller base s c best reports.stated in
      elim (below-total b best.ballot) [
        | inl above ↦ carried ∙ earlier best.ballot (facts.reported_below reports.teller base s c best reports.stated) best.definition above asked_best
        | inr (inl same) ↦ carried ∙ facts.one_accept s b best.definition d (subst (λ x. IsIn (Accept s x best.definition) sent) (sym same) asked_best) asked
        | inr (inr lower) ↦ absurd (both_ways (below best.ballot b) not_below lower)
      ]

  -- a vote not below b was reported, and the best one isn't below that
  by_best : (base : ℕ) (c : Ballot) (e : V) (best vote : Option (Vote V)) (nodes : ℕ → Bool) → ((a : Ballot) → below a c ≡ true → Carries a) → VoteNotBelow vote b →
      AreReportsWithin vote best → BestIsReported sent base s c nodes best → IsVoteCarried best e → e ≡ d
  by_best base c e best None nodes earlier not_below within reports carried = absurd not_below
  by_best base c e None (Some vote) nodes earlier not_below within reports carried = absurd within
  by_best base c e (Some best) (Some vote) nodes earlier not_below within reports carried =
      of_best base c e best earlier (not_below-transitive b vote.ballot best.ballot not_below within) nodes reports carried

  carries_step : (c : Ballot) → ((a : Ballot) → below a c ≡ true → Carries a) → Carries c
  carries_step c earlier e above is_sent =
      let backed : IsBacked n sent s c e = facts.backed s c e is_sent in
      let (i, (is_node, voted, promised)) = majorities_meet n (Voted sent s b d) (HasPromised sent backed.base s c backed.best) chosen backed.majority in
      by_best backed.base c e backed.best promised.vote backed.majority.nodes earlier
      (facts.reports i backed.base s c b promised.vote promised.stated voted.stated above) promised.within backed.reports backed.carried

  pub carries : (c : Ballot) → Carries c
  carries c = below-induction Carries carries_step c

  -- so nothing else is chosen at the same ballot or a later one
  pub chosen_later : (c : Ballot) (e : V) → Majority n (Voted sent s c e) → (below b c ≡ true) ⊎ (b ≡ c) → e ≡ d
  chosen_later c e later order =
      let (i, (is_node, first, second)) = majorities_meet n (Voted sent s c e) (Voted sent s c e) later later in
      elim order [
        | inl above ↦ carries c e above first.asked
        | inr same ↦ facts.one_accept s b e d (subst (λ x. IsIn (Accept s x e) sent) (sym same) first.asked) asked
      ]

-- at most one definition is chosen for a sequence
pub one_chosen : {V : Type 0} (n : ℕ) (sent : List (Message V)) → MessageFacts n sent → (s : ℕ) (c d : V) → IsChosen n sent s c → IsChosen n sent s d → c ≡ d
one_chosen n sent facts s c d first second =
    elim (below-total first.ballot second.ballot) [
      | inl above ↦ sym (chosen_later n sent facts s first.ballot c first.majority second.ballot d second.majority (inl above))
      | inr (inl same) ↦ sym (chosen_later n sent facts s first.ballot c first.majority second.ballot d second.majority (inr same))
      | inr (inr lower) ↦ chosen_later n sent facts s second.ballot d second.majority first.ballot c first.majority (inl lower)
    ]
