-- One message is sent, and all facts stay: those of the messages, of the sending node, of every
-- other node.
use Rattle.std.proofs.Common.{◌≡◌, ℕ, ◌<◌, List, [], ◌∷◌, ◌++◌, Option, sym, subst, inl, inr}
use Rattle.std.proofs.lemmas.Bool.{both_ways}
use Rattle.wf_ballot.specs.Ballot.{Ballot, below}
use Rattle.wf_model.specs.Message.{Vote, Message, Prepare, Promise, Accept, Accepted, Chosen}
use Rattle.wf_model.specs.DurableState.{DurableState}
use Rattle.wf_model.specs.Chosen.{IsIn, Reported, IsChosen}
use Rattle.wf_safety.specs.Theorems.{ballots_of}
use Rattle.wf_safety.proofs.Members.{member-before, member-split}
use Rattle.wf_safety.proofs.Facts.{IsNext, MessageFacts, DurableFacts, MayPromise, MayAsk, MayVote, IsMeet, MaySend}
use Rattle.wf_safety.proofs.Monotonicity.{Stands-longer, IsChosen-longer, IsNext-longer, IsAskedAt-longer, IsBacked-longer}

-- ---- the messages' facts

module _ {V : Type 0} (n i : ℕ) (stored : DurableState V) (sent : List (Message V)) (last : Message V) where
  -- what the last message meets, where it is known to be this one
  meets : (message : Message V) → message ≡ last → MaySend n i stored sent last → IsMeet n i stored sent message
  meets message e may = subst (IsMeet n i stored sent) (sym e) may.meet

  -- a fact of a message in the longer list: an old one has it, and so does the last one
  by_index : (message : Message V) {P : Type 0} → (IsIn message sent → P) → (message ≡ last → P) → IsIn message (sent ++ last ∷ []) → P
  by_index message old new is_in = elim (member-split message sent last is_in) [ inl h ↦ old h | inr e ↦ new e ]

  -- what a Promise of the longer list reported, if it was sent before
  still_reported : {base s : ℕ} {b : Ballot} {vote : Option (Vote V)} {j : ℕ} (promise : Reported (sent ++ last ∷ []) base s b vote j) → IsIn (Promise j base b promise.votes) sent →
      Reported sent base s b vote j
  still_reported promise h = record { votes = promise.votes; stated = h; reported = promise.reported }

  -- Each fact is of messages in the longer list. Of old ones it is known, and stays true in a
  -- longer list; of the last one it is what such a message must meet. Of two messages that are both
  -- the last one it is plain, or they are of different kinds.
  pub send_messages : MessageFacts n sent → MaySend n i stored sent last → MessageFacts n (sent ++ last ∷ [])
  send_messages facts may = record {
    requested = λ j s b votes.
        by_index (Promise j s b votes) (λ h. member-before (Prepare s b) sent (last ∷ []) (facts.requested j s b votes h))
        (λ e. let m : MayPromise i stored sent j s b votes = meets (Promise j s b votes) e may in member-before (Prepare s b) sent (last ∷ []) m.requested);
    one_accept = λ s b c d first second.
        by_index (Accept s b c)
        (λ h. by_index (Accept s b d) (λ k. facts.one_accept s b c d h k)
        (λ e. let ask : MayAsk n i stored sent s b d = meets (Accept s b d) e may in absurd (ask.fresh c h)) second)
        (λ e. by_index (Accept s b d)
        (λ k. let ask : MayAsk n i stored sent s b c = meets (Accept s b c) e may in absurd (ask.fresh d k))
        (λ g. let same : Accept s b c ≡ Accept s b d = cc in let cs : c ≡ d = cc in cs) second)
        first;
    backed = λ s b d.
        by_index (Accept s b d) (λ h. IsBacked-longer sent (last ∷ []) (facts.backed s b d h))
        (λ e. let ask : MayAsk n i stored sent s b d = meets (Accept s b d) e may in IsBacked-longer sent (last ∷ []) ask.backed);
    reports = λ j base s b c vote promise vote_below lower.
        by_index (Promise j base b promise.votes)
        (λ h. by_index (Accepted j s c) (λ k. facts.reports j base s b c vote (still_reported promise h) k lower)
        (λ e. let m : MayVote i stored sent j s c = meets (Accepted j s c) e may in
        absurd (both_ways (below c b)
        (m.order base b promise.votes (subst (λ x. IsIn (Promise x base b promise.votes) sent) m.own h) (facts.within j base s b vote (still_reported promise h))) lower)) vote_below)
        (λ e. let m : MayPromise i stored sent j base b promise.votes = meets (Promise j base b promise.votes) e may in
        by_index (Accepted j s c) (λ k. m.reports s vote promise.reported c (subst (λ x. IsIn (Accepted x s c) sent) m.own k)) (λ g. cc) vote_below)
        promise.stated;
    reported_asked = λ j base s b vote promise.
        by_index (Promise j base b promise.votes)
        (λ h. member-before (Accept s vote.ballot vote.definition) sent (last ∷ []) (facts.reported_asked j base s b vote (still_reported promise h)))
        (λ e. let m : MayPromise i stored sent j base b promise.votes = meets (Promise j base b promise.votes) e may in
        member-before (Accept s vote.ballot vote.definition) sent (last ∷ []) (m.asked s vote promise.reported)) promise.stated;
    reported_below = λ j base s b vote promise.
        by_index (Promise j base b promise.votes) (λ h. facts.reported_below j base s b vote (still_reported promise h))
        (λ e. let m : MayPromise i stored sent j base b promise.votes = meets (Promise j base b promise.votes) e may in m.lower s vote promise.reported) promise.stated;
    whole = λ j s b votes.
        by_index (Promise j s b votes) (facts.whole j s b votes)
        (λ e. let m : MayPromise i stored sent j s b votes = meets (Promise j s b votes) e may in m.whole);
    chosen = λ s d.
        by_index (Chosen s d) (λ h. IsChosen-longer sent (last ∷ []) (facts.chosen s d h))
        (λ e. let m : IsChosen n sent s d = meets (Chosen s d) e may in IsChosen-longer sent (last ∷ []) m);
    nodes = λ message b is_in in_message.
        by_index message (λ h. facts.nodes message b h in_message)
        (λ e. elim (may.known b (subst (λ m. IsIn b (ballots_of m)) e in_message)) [
          | inl own ↦ subst (λ j. j < n) (sym own.0) may.is_node
          | inr stands ↦ facts.nodes stands.message b stands.was_sent stands.is_in
        ]) is_in;
    senders = λ j s b votes.
        by_index (Promise j s b votes) (facts.senders j s b votes)
        (λ e. let m : MayPromise i stored sent j s b votes = meets (Promise j s b votes) e may in subst (λ x. x < n) (sym m.own) may.is_node);
    voters = λ j s b.
        by_index (Accepted j s b) (facts.voters j s b)
        (λ e. let m : MayVote i stored sent j s b = meets (Accepted j s b) e may in subst (λ x. x < n) (sym m.own) may.is_node);
    within = λ j base s b vote promise.
        by_index (Promise j base b promise.votes) (λ h. facts.within j base s b vote (still_reported promise h))
        (λ e. let m : MayPromise i stored sent j base b promise.votes = meets (Promise j base b promise.votes) e may in m.within s vote promise.reported) promise.stated;
    prepared_next = λ s b.
        by_index (Prepare s b) (λ h. IsNext-longer sent (last ∷ []) (facts.prepared_next s b h))
        (λ e. let next : IsNext n sent s = meets (Prepare s b) e may in IsNext-longer sent (last ∷ []) next);
    asked_next = λ s b d.
        by_index (Accept s b d) (λ h. IsNext-longer sent (last ∷ []) (facts.asked_next s b d h))
        (λ e. let ask : MayAsk n i stored sent s b d = meets (Accept s b d) e may in IsNext-longer sent (last ∷ []) ask.next);
    answered = λ j s b.
        by_index (Accepted j s b) (λ h. IsAskedAt-longer sent (last ∷ []) (facts.answered j s b h))
        (λ e. let m : MayVote i stored sent j s b = meets (Accepted j s b) e may in IsAskedAt-longer sent (last ∷ []) m.answered);
  }

  -- ---- the node that sends

  -- What this node must still have, of old messages it is known to have; of the last one it is what
  -- that must meet.
  pub send_own : DurableFacts n i stored sent → MaySend n i stored sent last → DurableFacts n i stored (sent ++ last ∷ [])
  send_own facts may = record {
    tried = λ s b d is_in of_i is_open.
        by_index (Accept s b d) (λ h. facts.tried s b d h of_i is_open)
        (λ e. let ask : MayAsk n i stored sent s b d = meets (Accept s b d) e may in ask.tried) is_in;
    open_votes = facts.open_votes;
    promised = λ s b votes is_in t in_window is_open.
        by_index (Promise i s b votes) (λ h. facts.promised s b votes h t in_window is_open)
        (λ e. let m : MayPromise i stored sent i s b votes = meets (Promise i s b votes) e may in m.promise) is_in;
    accepted = λ s b is_in is_open.
        by_index (Accepted i s b) (λ h. facts.accepted s b h is_open)
        (λ e. let m : MayVote i stored sent i s b = meets (Accepted i s b) e may in m.promise) is_in;
    voted = λ s b is_in is_open.
        by_index (Accepted i s b) (λ h. facts.voted s b h is_open)
        (λ e. let m : MayVote i stored sent i s b = meets (Accepted i s b) e may in m.vote) is_in;
    vote_asked = λ s vote e. member-before (Accept s vote.ballot vote.definition) sent (last ∷ []) (facts.vote_asked s vote e);
    vote_within = facts.vote_within;
    promise_stands = λ b e. Stands-longer sent (last ∷ []) (facts.promise_stands b e);
    chosen = λ s d e. IsChosen-longer sent (last ∷ []) (facts.chosen s d e);
  }

  -- ---- every other node

  -- The last message is this node's: it is no promise and no vote of another one, and each ballot
  -- in it is its own or was in a message before.
  pub send_other : (j : ℕ) (other : DurableState V) → (j ≡ i → ⊥) → DurableFacts n j other sent → MaySend n i stored sent last → DurableFacts n j other (sent ++ last ∷ [])
  send_other j other differs facts may = record {
    tried = λ s b d is_in of_j is_open.
        by_index (Accept s b d) (λ h. facts.tried s b d h of_j is_open)
        (λ e. let ask : MayAsk n i stored sent s b d = meets (Accept s b d) e may in let same : j ≡ i = cc (ask.own, of_j) in absurd (differs same)) is_in;
    open_votes = facts.open_votes;
    promised = λ s b votes is_in t in_window is_open.
        by_index (Promise j s b votes) (λ h. facts.promised s b votes h t in_window is_open)
        (λ e. let m : MayPromise i stored sent j s b votes = meets (Promise j s b votes) e may in absurd (differs m.own)) is_in;
    accepted = λ s b is_in is_open.
        by_index (Accepted j s b) (λ h. facts.accepted s b h is_open)
        (λ e. let m : MayVote i stored sent j s b = meets (Accepted j s b) e may in absurd (differs m.own)) is_in;
    voted = λ s b is_in is_open.
        by_index (Accepted j s b) (λ h. facts.voted s b h is_open)
        (λ e. let m : MayVote i stored sent j s b = meets (Accepted j s b) e may in absurd (differs m.own)) is_in;
    vote_asked = λ s vote e. member-before (Accept s vote.ballot vote.definition) sent (last ∷ []) (facts.vote_asked s vote e);
    vote_within = facts.vote_within;
    promise_stands = λ b e. Stands-longer sent (last ∷ []) (facts.promise_stands b e);
    chosen = λ s d e. IsChosen-longer sent (last ∷ []) (facts.chosen s d e);
  }
