-- The messages of a transition are sent: none, one, or a list. And what a running proposal and a
-- leadership keep meanwhile.
use Rattle.std.proofs.Common.{◌≡◌, ℕ, ◌+◌, ◌<◌, ◌≤◌, List, [], ◌∷◌, ◌++◌, zero, suc, Option, Some, None, refl, sym, subst, inl, inr, arith, append_assoc, append-nil}
use Rattle.std.specs.Prelude.{⊤}
use Rattle.wf_ballot.specs.Ballot.{Ballot}
use Rattle.wf_model.specs.Message.{Message, Prepare, Promise, Accept, Accepted, Nack, Chosen, Ask, vote_of}
use Rattle.wf_model.specs.DurableState.{DurableState, published, next_sequence, definition_at}
use Rattle.wf_model.specs.VolatileState.{Phase, Preparing, Accepting, Proposal, Proposing, Idle, Running, Won, Overtaken, Leadership, VolatileState, proposed}
use Rattle.wf_model.specs.Table.{reports_of, reports, reports_from}
use Rattle.wf_model.specs.Chosen.{IsIn, IsChosen}
use Rattle.wf_safety.proofs.Members.{member-before, member-parts}
use Rattle.wf_safety.proofs.Facts.{MessageFacts, DurableFacts, PreparingFacts, AcceptingFacts, PhaseFacts, ProposingFacts, LeadershipFacts, LeadingFacts, last_asked, VolatileFacts, MayAsk, IsMeet, MaySend, Sends, IsOwnAsk}
use Rattle.wf_safety.proofs.Monotonicity.{HasPromised-longer, BestIsReported-longer, IsChosen-longer}
use Rattle.wf_safety.proofs.SentMessage.{send_messages, send_own, send_other}

-- ---- one message after the other

module _ {V : Type 0} (n i : ℕ) (stored : DurableState V) where
  pub emit_messages : (sent new : List (Message V)) → Sends n i stored sent new → MessageFacts n sent → DurableFacts n i stored sent → MessageFacts n (sent ++ new)
  emit_messages sent [] sends messages own = subst (MessageFacts n) (sym (append-nil sent)) messages
  emit_messages sent (m ∷ rest) sends messages own =
      subst (MessageFacts n) (append_assoc sent (m ∷ []) rest)
      (emit_messages (sent ++ m ∷ []) rest sends.1 (send_messages n i stored sent m messages sends.0) (send_own n i stored sent m own sends.0))

  pub emit_own : (sent new : List (Message V)) → Sends n i stored sent new → DurableFacts n i stored sent → DurableFacts n i stored (sent ++ new)
  emit_own sent [] sends own = subst (DurableFacts n i stored) (sym (append-nil sent)) own
  emit_own sent (m ∷ rest) sends own =
      subst (DurableFacts n i stored) (append_assoc sent (m ∷ []) rest) (emit_own (sent ++ m ∷ []) rest sends.1 (send_own n i stored sent m own sends.0))

  pub emit_other : (sent new : List (Message V)) (j : ℕ) (other : DurableState V) → (j ≡ i → ⊥) → Sends n i stored sent new → DurableFacts n j other sent → DurableFacts n j other (sent ++ new)
  emit_other sent [] j other differs sends facts = subst (DurableFacts n j other) (sym (append-nil sent)) facts
  emit_other sent (m ∷ rest) j other differs sends facts =
      subst (DurableFacts n j other) (append_assoc sent (m ∷ []) rest)
      (emit_other (sent ++ m ∷ []) rest j other differs sends.1 (send_other n i stored sent m j other differs facts sends.0))

  -- an Accept among them is at a ballot of their node
  asks_own : (sent new : List (Message V)) (t : ℕ) (b : Ballot) (d : V) → Sends n i stored sent new → IsIn (Accept t b d) new → b.node ≡ i
  asks_own sent [] t b d sends h = absurd h
  asks_own sent (m ∷ rest) t b d sends (inl e) =
      let ask : MayAsk n i stored sent t b d = subst (IsMeet n i stored sent) (sym e) sends.0.meet in ask.own
  asks_own sent (m ∷ rest) t b d sends (inr h) = asks_own (sent ++ m ∷ []) rest t b d sends.1 h

-- ---- running proposals

-- no Accept at the ballot is among the new messages
abbrev pub IsUnasked : {V : Type 0} → List (Message V) → Ballot → Type 0
IsUnasked {V} new b = (t : ℕ) (d : V) → IsIn (Accept t b d) new → ⊥

module _ {V : Type 0} (sent new : List (Message V)) where
  pub PreparingFacts-longer : (p : Proposal V) → IsUnasked new p.ballot → PreparingFacts sent p → PreparingFacts (sent ++ new) p
  PreparingFacts-longer p unasked facts = record {
    fresh = λ t d from h. elim (member-parts (Accept t p.ballot d) sent new h) [ inl old ↦ facts.fresh t d from old | inr k ↦ unasked t d k ];
    responders = λ j s is_in in_window. HasPromised-longer sent new (facts.responders j s is_in in_window);
    reports = λ s. BestIsReported-longer sent new p.sequence s p.ballot p.responders (vote_of p.sequence p.best s) (facts.reports s);
  }

  pub AcceptingFacts-longer : (p : Proposal V) → AcceptingFacts sent p → AcceptingFacts (sent ++ new) p
  AcceptingFacts-longer p facts = record {
    asked = member-before (Accept p.sequence p.ballot (proposed p)) sent new facts.asked;
    responders = λ j is_in. member-before (Accepted j p.sequence p.ballot) sent new (facts.responders j is_in);
  }

  PhaseFacts-longer : (p : Proposal V) (phase : Phase) → IsUnasked new p.ballot → PhaseFacts sent p phase → PhaseFacts (sent ++ new) p phase
  PhaseFacts-longer p Preparing unasked facts = PreparingFacts-longer p unasked facts
  PhaseFacts-longer p Accepting unasked facts = AcceptingFacts-longer p facts

  ProposingFacts-longer : (j : ℕ) (stored : DurableState V) (proposing : Proposing V) → ((b : Ballot) → b.node ≡ j → IsUnasked new b) →
      ProposingFacts j stored sent proposing → ProposingFacts j stored (sent ++ new) proposing
  ProposingFacts-longer j stored Idle unasked facts = tt
  ProposingFacts-longer j stored (Running p) unasked facts = record {
    own = facts.own;
    tried = facts.tried;
    next = facts.next;
    is_sequence = facts.is_sequence;
    phase = PhaseFacts-longer p p.phase (unasked p.ballot facts.own) facts.phase;
  }
  ProposingFacts-longer j stored (Won s) unasked facts = tt
  ProposingFacts-longer j stored (Overtaken s) unasked facts = tt

  -- the leadership's promises were sent, and the Accepts at its ballot are given
  pub led_longer : (n j : ℕ) (stored : DurableState V) (last last' : ℕ) (l : Leadership V) → ((s : ℕ) (d : V) → IsIn (Accept s l.ballot d) (sent ++ new) → s ≤ last') →
      LeadershipFacts n j stored sent last l → LeadershipFacts n j stored (sent ++ new) last' l
  led_longer n j stored last last' l asked facts = record {
    own = facts.own;
    tried = facts.tried;
    asked = asked;
    nodes = facts.nodes;
    is_majority = facts.is_majority;
    responders = λ k s is_in in_window. HasPromised-longer sent new (facts.responders k s is_in in_window);
    reports = λ s. BestIsReported-longer sent new l.base s l.ballot facts.nodes (vote_of l.base l.best s) (facts.reports s);
  }

  LeadingFacts-longer : (n j : ℕ) (stored : DurableState V) (last : ℕ) (leadership : Option (Leadership V)) → ((b : Ballot) → b.node ≡ j → IsUnasked new b) →
      LeadingFacts n j stored sent last leadership → LeadingFacts n j stored (sent ++ new) last leadership
  LeadingFacts-longer n j stored last None unasked facts = tt
  LeadingFacts-longer n j stored last (Some l) unasked facts =
      led_longer n j stored last last l
      (λ s d h. elim (member-parts (Accept s l.ballot d) sent new h) [ inl old ↦ facts.asked s d old | inr k ↦ absurd (unasked l.ballot facts.own s d k) ]) facts

  -- a node's volatile state keeps its facts while no Accept at a ballot of its own is sent
  pub VolatileFacts-longer : (n j : ℕ) (stored : DurableState V) (volatile : VolatileState V) → ((b : Ballot) → b.node ≡ j → IsUnasked new b) →
      VolatileFacts n j stored sent volatile → VolatileFacts n j stored (sent ++ new) volatile
  VolatileFacts-longer n j stored volatile unasked facts = record {
    proposing = ProposingFacts-longer j stored volatile.proposing unasked facts.proposing;
    leading = LeadingFacts-longer n j stored (last_asked stored volatile.proposing) volatile.leadership unasked facts.leading;
  }

-- every other node's volatile state keeps its facts
pub volatile_other : {V : Type 0} (n i : ℕ) (stored : DurableState V) (sent new : List (Message V)) (j : ℕ) (other : DurableState V) (volatile : VolatileState V) →
    (j ≡ i → ⊥) → Sends n i stored sent new → VolatileFacts n j other sent volatile → VolatileFacts n j other (sent ++ new) volatile
volatile_other n i stored sent new j other volatile differs sends facts =
    VolatileFacts-longer sent new n j other volatile
    (λ b of_j t d h. let of_i : b.node ≡ i = asks_own n i stored sent new t b d sends h in let same : j ≡ i = cc in differs same) facts

-- ---- the durable state of a node changes

module _ {V : Type 0} (n i : ℕ) (stored stored' : DurableState V) (sent : List (Message V)) (same_tried : stored.tried ≡ stored'.tried) where
  -- the leadership keeps its facts, with a last sequence that isn't lower
  pub LeadingFacts-stored : (last last' : ℕ) (leadership : Option (Leadership V)) → last ≤ last' → LeadingFacts n i stored sent last leadership → LeadingFacts n i stored' sent last' leadership
  LeadingFacts-stored last last' None higher facts = tt
  LeadingFacts-stored last last' (Some l) higher facts = record {
    own = facts.own;
    tried = subst (λ r. l.ballot.round ≤ r) same_tried facts.tried;
    asked = λ s d h. let within : s ≤ last = facts.asked s d h in omega arith;
    nodes = facts.nodes;
    is_majority = facts.is_majority;
    responders = facts.responders;
    reports = facts.reports;
  }

  module _ (same_published : published stored ≡ published stored') where
    ProposingFacts-stored : (proposing : Proposing V) → ProposingFacts i stored sent proposing → ProposingFacts i stored' sent proposing
    unfolding next_sequence
    ProposingFacts-stored Idle facts = tt
    ProposingFacts-stored (Running p) facts = record {
      own = facts.own;
      tried = subst (λ r. p.ballot.round ≤ r) same_tried facts.tried;
      next = subst (λ k. p.sequence ≡ k + 1) same_published facts.next;
      is_sequence = facts.is_sequence;
      phase = facts.phase;
    }
    ProposingFacts-stored (Won s) facts = tt
    ProposingFacts-stored (Overtaken s) facts = tt

    same_last : (proposing : Proposing V) → last_asked stored proposing ≤ last_asked stored' proposing
    unfolding next_sequence
    same_last Idle = omega arith
    same_last (Running p) = omega arith
    same_last (Won s) = omega arith
    same_last (Overtaken s) = omega arith

    -- and so does a running proposal, if nothing is published
    pub VolatileFacts-stored : (volatile : VolatileState V) → VolatileFacts n i stored sent volatile → VolatileFacts n i stored' sent volatile
    VolatileFacts-stored volatile facts = record {
      proposing = ProposingFacts-stored volatile.proposing facts.proposing;
      leading = LeadingFacts-stored (last_asked stored volatile.proposing) (last_asked stored' volatile.proposing) volatile.leadership (same_last volatile.proposing) facts.leading;
    }

-- ---- answers, which are no requests

abbrev pub IsAnswer : {V : Type 0} → Message V → Type 0
IsAnswer (Prepare s b) = ⊥
IsAnswer (Promise i s b vote) = ⊤
IsAnswer (Accept s b d) = ⊥
IsAnswer (Accepted i s b) = ⊤
IsAnswer (Nack i s b promise) = ⊤
IsAnswer (Chosen s d) = ⊤
IsAnswer (Ask s) = ⊤

abbrev pub AreAnswers : {V : Type 0} → List (Message V) → Type 0
AreAnswers [] = ⊤
AreAnswers (m ∷ rest) = IsAnswer m × AreAnswers rest

pub answers_unasked : {V : Type 0} (new : List (Message V)) (b : Ballot) → AreAnswers new → IsUnasked new b
answers_unasked [] b answers t d h = absurd h
answers_unasked (m ∷ rest) b answers t d (inl e) = absurd (subst IsAnswer (sym e) answers.0)
answers_unasked (m ∷ rest) b answers t d (inr h) = answers_unasked rest b answers.1 t d h

pub answers_unprepared : {V : Type 0} (new : List (Message V)) (s : ℕ) (b : Ballot) → AreAnswers new → IsIn (Prepare s b) new → ⊥
answers_unprepared [] s b answers h = absurd h
answers_unprepared (m ∷ rest) s b answers (inl e) = absurd (subst IsAnswer (sym e) answers.0)
answers_unprepared (m ∷ rest) s b answers (inr h) = answers_unprepared rest s b answers.1 h

answer_asks : {V : Type 0} (i : ℕ) (volatile : VolatileState V) (m : Message V) → IsAnswer m → IsOwnAsk i volatile m
answer_asks i volatile (Prepare s b) h = absurd h
answer_asks i volatile (Promise j s b vote) h = tt
answer_asks i volatile (Accept s b d) h = absurd h
answer_asks i volatile (Accepted j s b) h = tt
answer_asks i volatile (Nack j s b promise) h = tt
answer_asks i volatile (Chosen s d) h = tt
answer_asks i volatile (Ask s) h = tt

pub answers_ask : {V : Type 0} (i : ℕ) (volatile : VolatileState V) (new : List (Message V)) → AreAnswers new → (m : Message V) → IsIn m new → IsOwnAsk i volatile m
answers_ask i volatile [] answers m h = absurd h
answers_ask i volatile (a ∷ rest) answers m (inl e) = subst (IsOwnAsk i volatile) (sym e) (answer_asks i volatile a answers.0)
answers_ask i volatile (a ∷ rest) answers m (inr h) = answers_ask i volatile rest answers.1 m h

-- ---- published definitions are sent

-- the messages are Chosen, each of what is chosen
abbrev pub IsReported : {V : Type 0} → ℕ → List (Message V) → Message V → Type 0
IsReported n sent (Prepare s b) = ⊥
IsReported n sent (Promise i s b vote) = ⊥
IsReported n sent (Accept s b d) = ⊥
IsReported n sent (Accepted i s b) = ⊥
IsReported n sent (Nack i s b promise) = ⊥
IsReported n sent (Chosen s d) = IsChosen n sent s d
IsReported n sent (Ask s) = ⊥

abbrev pub AreReported : {V : Type 0} → ℕ → List (Message V) → List (Message V) → Type 0
AreReported n sent [] = ⊤
AreReported n sent (m ∷ rest) = IsReported n sent m × AreReported n sent rest

IsReported-longer : {V : Type 0} (n : ℕ) (sent new : List (Message V)) (m : Message V) → IsReported n sent m → IsReported n (sent ++ new) m
IsReported-longer n sent new (Prepare s b) h = absurd h
IsReported-longer n sent new (Promise i s b vote) h = absurd h
IsReported-longer n sent new (Accept s b d) h = absurd h
IsReported-longer n sent new (Accepted i s b) h = absurd h
IsReported-longer n sent new (Nack i s b promise) h = absurd h
IsReported-longer n sent new (Chosen s d) h = IsChosen-longer sent new h
IsReported-longer n sent new (Ask s) h = absurd h

AreReported-longer : {V : Type 0} (n : ℕ) (sent new list : List (Message V)) → AreReported n sent list → AreReported n (sent ++ new) list
AreReported-longer n sent new [] h = tt
AreReported-longer n sent new (m ∷ rest) h = (IsReported-longer n sent new m h.0, AreReported-longer n sent new rest h.1)

reported_answer : {V : Type 0} (n : ℕ) (sent : List (Message V)) (m : Message V) → IsReported n sent m → IsAnswer m
reported_answer n sent (Prepare s b) h = absurd h
reported_answer n sent (Promise i s b vote) h = absurd h
reported_answer n sent (Accept s b d) h = absurd h
reported_answer n sent (Accepted i s b) h = absurd h
reported_answer n sent (Nack i s b promise) h = absurd h
reported_answer n sent (Chosen s d) h = tt
reported_answer n sent (Ask s) h = absurd h

pub reported_answers : {V : Type 0} (n : ℕ) (sent list : List (Message V)) → AreReported n sent list → AreAnswers list
reported_answers n sent [] h = tt
reported_answers n sent (m ∷ rest) h = (reported_answer n sent m h.0, reported_answers n sent rest h.1)

reported_may : {V : Type 0} (n i : ℕ) (stored : DurableState V) (sent : List (Message V)) → i < n → (m : Message V) → IsReported n sent m → MaySend n i stored sent m
reported_may n i stored sent is_node (Prepare s b) h = absurd h
reported_may n i stored sent is_node (Promise j s b vote) h = absurd h
reported_may n i stored sent is_node (Accept s b d) h = absurd h
reported_may n i stored sent is_node (Accepted j s b) h = absurd h
reported_may n i stored sent is_node (Nack j s b promise) h = absurd h
reported_may n i stored sent is_node (Chosen s d) h = record { is_node = is_node; known = λ b is_in. absurd is_in; meet = h }
reported_may n i stored sent is_node (Ask s) h = absurd h

pub reported_sends : {V : Type 0} (n i : ℕ) (stored : DurableState V) (sent list : List (Message V)) → i < n → AreReported n sent list → Sends n i stored sent list
reported_sends n i stored sent [] is_node h = tt
reported_sends n i stored sent (m ∷ rest) is_node h =
    (reported_may n i stored sent is_node m h.0, reported_sends n i stored (sent ++ m ∷ []) rest is_node (AreReported-longer n sent (m ∷ []) rest h.1))

AreReported-both : {V : Type 0} (n : ℕ) (sent first second : List (Message V)) → AreReported n sent first → AreReported n sent second → AreReported n sent (first ++ second)
AreReported-both n sent [] second h k = k
AreReported-both n sent (m ∷ rest) second h k = (h.0, AreReported-both n sent rest second h.1 k)

module _ {V : Type 0} (n : ℕ) (sent : List (Message V)) (history : List V) (chosen : (s : ℕ) (d : V) → definition_at history s ≡ Some d → IsChosen n sent s d) where
  of_found : (s : ℕ) (found : Option V) → definition_at history s ≡ found → AreReported n sent (reports_of s found)
  unfolding reports_of
  of_found s None e = tt
  of_found s (Some d) e = (chosen s d e, tt)

  pub reported_are_reported : (s : ℕ) → AreReported n sent (reports history s)
  unfolding reports
  reported_are_reported s = of_found s (definition_at history s) refl

  pub reported_from_are_reported : (s count : ℕ) → AreReported n sent (reports_from history s count)
  unfolding reports_from
  reported_from_are_reported s zero = tt
  reported_from_are_reported s (suc count) = AreReported-both n sent (reports history s) (reports_from history (suc s) count) (reported_are_reported s) (reported_from_are_reported (suc s) count)
