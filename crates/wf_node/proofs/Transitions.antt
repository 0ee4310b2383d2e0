-- Which record a transition can have, and which transitions send something.
use Rattle.std.proofs.Common.{◌≡◌, ℕ, max, zero, suc, ◌+◌, ◌≤◌, ◌<◌, Bool, true, false, nat_le, nat_lt, ◌==◌, List, [], ◌∷◌, ◌++◌, length, slice_get, Option, Some, None, IsSome, if◌then◌else◌, refl, sym, subst, ap, ◌∙◌, arith, inl, inr}
use Rattle.std.proofs.lemmas.Bool.{cases_lt, false≢true, true≢false, eq-eqb, ne_eqb, lt-ltb, le-ltb}
use Rattle.std.proofs.lemmas.Option.{none-some}
use Rattle.wf_ballot.specs.Ballot.{Ballot}
use Rattle.wf_ballot.specs.Majority.{count_nodes, is_majority_of}
use Rattle.wf_def.specs.Definition.{Definition}
use Rattle.wf_def.specs.Equality.{definition_eq}
use Rattle.wf_model.specs.Fits.{IsForNext}
use Rattle.wf_ballot.specs.Sequence.{last_sequence}
use Rattle.wf_model.specs.Message.{Vote, Chosen, Ask}
use Rattle.wf_model.specs.DurableState as stored_part
use Rattle.wf_model.specs.DurableState.{HasStored, DurableState, Record, fits, published, next_sequence, definition_at}
use Rattle.wf_model.specs.Table.{Transition, running_transition, on_promise, on_accepted, on_nack, on_prepare, on_accept, on_chosen, on_catch_up, on_retry, reject_proposal, reject_retry, round_known, Busy, SequenceFull, on_propose, propose_by, begin_at, lead, ask_votes, stores, only_sends, quiet, with_proposal, promised, voted, is_new_response, leadership_of, asking_votes, with_promise, with_vote, reports, reports_of, reports_from, most_reports, ends, ended, after_publishing}
use Rattle.wf_model.specs.VolatileState.{VolatileState, Proposing, Idle, Running, Won, Overtaken, Proposal, Preparing, Accepting, Leadership, proposed, is_at, leading_at}
use Rattle.wf_proposer.specs.Proposer.{runs_for}
use Rattle.wf_node.specs.Act.{IsOwnRecord, runs}
use Rattle.wf_node.specs.Fault.{TakesMemory, ByEntry, ByMessages}

-- ---- records of the proposer

-- What holds of no record, and of that of the running proposal's transition, holds of the
-- transition's record.
entry_if_running : (P : Option (Record Definition) → Type 0) (volatile : VolatileState Definition) (proposing : Proposing Definition) (transition_of : Proposal Definition → Transition Definition) →
    P None → ((proposal : Proposal Definition) → P (transition_of proposal).entry) → P (running_transition volatile proposing transition_of).entry
unfolding quiet
entry_if_running P volatile Idle transition_of none some = none
entry_if_running P volatile (Running proposal) transition_of none some = some proposal
entry_if_running P volatile (Won s) transition_of none some = none
entry_if_running P volatile (Overtaken s) transition_of none some = none

pub none_own : (entry : Option (Record Definition)) → entry ≡ None → IsOwnRecord entry
none_own entry none = subst IsOwnRecord (sym none) tt

promised_none : (n : ℕ) (volatile : VolatileState Definition) (proposal : Proposal Definition) → (promised n volatile proposal).entry ≡ None
unfolding promised ask_votes only_sends quiet
promised_none n volatile proposal =
    elim (is_majority_of (count_nodes n proposal.responders) n) as (λ b.
    (if b then ask_votes (leadership_of proposal) (asking_votes proposal) else quiet (with_proposal volatile proposal)).entry ≡ None) [
      | true ↦ refl
      | false ↦ refl
    ]

received_promise_none : (n : ℕ) (volatile : VolatileState Definition) (proposal : Proposal Definition) (sender : ℕ) (votes : List (Option (Vote Definition))) (is_first_response : Bool) →
    (if is_first_response then promised n volatile (with_promise proposal sender votes) else quiet volatile).entry ≡ None
unfolding quiet
received_promise_none n volatile proposal sender votes true = promised_none n volatile (with_promise proposal sender votes)
received_promise_none n volatile proposal sender votes false = refl

pub promise_stores_none : (n : ℕ) (volatile : VolatileState Definition) (sender s : ℕ) (b : Ballot) (votes : List (Option (Vote Definition))) →
    (on_promise n volatile sender s b votes).entry ≡ None
unfolding on_promise
promise_stores_none n volatile sender s b votes =
    entry_if_running (λ entry. entry ≡ None) volatile volatile.proposing
    (λ proposal. if is_new_response n proposal Preparing sender s b then promised n volatile (with_promise proposal sender votes) else quiet volatile) refl
    (λ proposal. received_promise_none n volatile proposal sender votes (is_new_response n proposal Preparing sender s b))

voted_own : (n : ℕ) (volatile : VolatileState Definition) (proposal : Proposal Definition) → IsOwnRecord (voted definition_eq n volatile proposal).entry
unfolding voted stores quiet
voted_own n volatile proposal =
    let d : Definition = proposed proposal in
    elim (is_majority_of (count_nodes n proposal.responders) n) as (λ b.
    IsOwnRecord (if b then stores (record volatile { proposing = ended definition_eq proposal d }) (stored_part.Published proposal.sequence d) (Chosen proposal.sequence d)
    else quiet (with_proposal volatile proposal)).entry) [
      | true ↦ tt
      | false ↦ tt
    ]

received_vote_own : (n : ℕ) (volatile : VolatileState Definition) (proposal : Proposal Definition) (sender : ℕ) (is_first_response : Bool) →
    IsOwnRecord (if is_first_response then voted definition_eq n volatile (with_vote proposal sender) else quiet volatile).entry
unfolding quiet
received_vote_own n volatile proposal sender true = voted_own n volatile (with_vote proposal sender)
received_vote_own n volatile proposal sender false = tt

pub accepted_own : (n : ℕ) (volatile : VolatileState Definition) (sender s : ℕ) (b : Ballot) → IsOwnRecord (on_accepted definition_eq n volatile sender s b).entry
unfolding on_accepted
accepted_own n volatile sender s b =
    entry_if_running IsOwnRecord volatile volatile.proposing
    (λ proposal. if is_new_response n proposal Accepting sender s b then voted definition_eq n volatile (with_vote proposal sender) else quiet volatile) tt
    (λ proposal. received_vote_own n volatile proposal sender (is_new_response n proposal Accepting sender s b))

seen_none : (volatile : VolatileState Definition) (proposal seen : Proposal Definition) (is_here : Bool) →
    (if is_here then quiet (with_proposal volatile seen) else quiet volatile).entry ≡ None
unfolding quiet
seen_none volatile proposal seen true = refl
seen_none volatile proposal seen false = refl

pub nack_stores_none : (volatile : VolatileState Definition) (s : ℕ) (b promise : Ballot) → (on_nack volatile s b promise).entry ≡ None
unfolding on_nack
nack_stores_none volatile s b promise =
    entry_if_running (λ entry. entry ≡ None) volatile volatile.proposing
    (λ proposal. if is_at proposal s b then quiet (with_proposal volatile (record proposal { seen = max proposal.seen promise.round })) else quiet volatile) refl
    (λ proposal. seen_none volatile proposal (record proposal { seen = max proposal.seen promise.round }) (is_at proposal s b))

-- A new round's record is the proposer's own, and a leader's proposal has none.
begun_own : (me : ℕ) (stored : DurableState Definition) (leadership : Option (Leadership Definition)) (own : Definition) → IsOwnRecord (propose_by me stored leadership own).entry
unfolding propose_by begin_at stores lead ask_votes only_sends
begun_own me stored None own = tt
begun_own me stored (Some leadership) own = tt

pub propose_own : (me : ℕ) (stored : DurableState Definition) (volatile : VolatileState Definition) (own : Definition) → IsOwnRecord (on_propose me stored volatile own).entry
unfolding on_propose
propose_own me stored volatile own = begun_own me stored (leading_at volatile.leadership (next_sequence stored)) own

-- A proposal that begins sends something.
begun_takes : (me : ℕ) (stored : DurableState Definition) (leadership : Option (Leadership Definition)) (own : Definition) → TakesMemory (propose_by me stored leadership own)
unfolding propose_by begin_at stores lead ask_votes only_sends
begun_takes me stored None own = ByEntry refl
begun_takes me stored (Some leadership) own = ByMessages (λ nothing. omega (arith, ap length nothing))

pub propose_takes : (me : ℕ) (stored : DurableState Definition) (volatile : VolatileState Definition) (own : Definition) → TakesMemory (on_propose me stored volatile own)
unfolding on_propose
propose_takes me stored volatile own = begun_takes me stored (leading_at volatile.leadership (next_sequence stored)) own

pub retry_own : (me : ℕ) (stored : DurableState Definition) (volatile : VolatileState Definition) → IsOwnRecord (on_retry me stored volatile).entry
unfolding on_retry begin_at stores
retry_own me stored volatile =
    entry_if_running IsOwnRecord volatile volatile.proposing (λ proposal. begin_at me stored proposal.own (round_known stored proposal + 1)) tt (λ proposal. tt)

-- ---- published definitions are sent

definition_there : (history : List Definition) (k : ℕ) → k < length history → slice_get history k ≡ None → ⊥
definition_there [] k low none = omega (arith, low)
definition_there (d ∷ history) zero low none = none-some d (sym none)
definition_there (d ∷ history) (suc k) low none = definition_there history k (omega (arith, low)) none

reported_of_some : (s : ℕ) (d : Option Definition) → (d ≡ None → ⊥) → reports_of s d ≡ [] → ⊥
unfolding reports_of
reported_of_some s None some nothing = some refl
reported_of_some s (Some d) some nothing = omega (arith, ap length nothing)

pub reported_something : (history : List Definition) (s : ℕ) → 1 ≤ s → s ≤ length history → reports history s ≡ [] → ⊥
unfolding reports definition_at
reported_something history zero from to nothing = omega (arith, from)
reported_something history (suc k) from to nothing = reported_of_some (suc k) (slice_get history k) (definition_there history k (omega (arith, to))) nothing

front_nothing : {A : Type 0} (xs ys : List A) → xs ++ ys ≡ [] → xs ≡ []
front_nothing [] ys e = refl
front_nothing (x ∷ xs) ys e = absurd (omega (arith, ap length e))

pub ask_reported : (history : List Definition) (s : ℕ) → 1 ≤ s → s ≤ length history → reports_from history s most_reports ≡ [] → ⊥
unfolding reports_from
ask_reported history s from to nothing = reported_something history s from to (front_nothing (reports history s) (reports_from history (suc s) 7) nothing)

-- ---- transitions that only send messages

pub prepare_reported : (me : ℕ) (stored : DurableState Definition) (volatile : VolatileState Definition) (s : ℕ) (b : Ballot) → nat_le s (length stored.history) ≡ true →
    on_prepare me stored volatile s b ≡ only_sends volatile (reports stored.history s)
unfolding on_prepare published
prepare_reported me stored volatile s b is = rw is refl

pub accept_reported : (me : ℕ) (stored : DurableState Definition) (volatile : VolatileState Definition) (s : ℕ) (b : Ballot) (d : Definition) → nat_le s (length stored.history) ≡ true →
    on_accept me stored volatile s b d ≡ only_sends volatile (reports stored.history s)
unfolding on_accept published
accept_reported me stored volatile s b d is = rw is refl

-- ---- a definition that is published ends a proposal

ends_by : (stored : DurableState Definition) (leadership : Option (Leadership Definition)) (proposing : Proposing Definition) (s : ℕ) (d : Definition) →
    IsForNext stored proposing → s ≡ length stored.history + 1 →
    ◌≡◌ {A = VolatileState Definition}
    (if runs_for s proposing then record { proposing = ends definition_eq proposing d; leadership = leadership } else record { proposing = proposing; leadership = leadership })
    (record { proposing = ends definition_eq proposing d; leadership = leadership })
unfolding ends next_sequence published
ends_by stored leadership Idle s d for_next is = refl
ends_by stored leadership (Running proposal) s d for_next is =
    let here : (proposal.sequence == s) ≡ true = eq-eqb proposal.sequence s (for_next ∙ sym is) in
    rw here refl
ends_by stored leadership (Won t) s d for_next is = refl
ends_by stored leadership (Overtaken t) s d for_next is = refl

pub ends_at_next : (stored : DurableState Definition) (volatile : VolatileState Definition) (s : ℕ) (d : Definition) → IsForNext stored volatile.proposing → s ≡ length stored.history + 1 →
    (if runs_for s volatile.proposing then after_publishing definition_eq volatile d else volatile) ≡ after_publishing definition_eq volatile d
unfolding after_publishing
ends_at_next stored volatile s d for_next is = ends_by stored volatile.leadership volatile.proposing s d for_next is

-- ---- the question for the next definition

pub catch_up_asks : (stored : DurableState Definition) (volatile : VolatileState Definition) (s : ℕ) → length stored.history < last_sequence → s ≡ length stored.history + 1 →
    on_catch_up stored volatile ≡ only_sends volatile (Ask s ∷ [])
unfolding on_catch_up next_sequence published
catch_up_asks stored volatile s more is = rw (lt-ltb (length stored.history) last_sequence more, is) refl

pub catch_up_rests : (stored : DurableState Definition) (volatile : VolatileState Definition) → (length stored.history < last_sequence → ⊥) →
    on_catch_up stored volatile ≡ only_sends volatile []
unfolding on_catch_up published only_sends quiet
catch_up_rests stored volatile full = rw (le-ltb (length stored.history) last_sequence (omega (arith, full))) refl

-- ---- a retry

retry_stores_by : (me : ℕ) (stored : DurableState Definition) (volatile : VolatileState Definition) (proposing : Proposing Definition) → reject_retry stored proposing ≡ None →
    IsSome (running_transition volatile proposing (λ proposal. begin_at me stored proposal.own (round_known stored proposal + 1))).entry
unfolding reject_retry begin_at stores
retry_stores_by me stored volatile Idle allowed = absurd (none-some _ (sym allowed))
retry_stores_by me stored volatile (Running proposal) allowed = refl
retry_stores_by me stored volatile (Won s) allowed = absurd (none-some _ (sym allowed))
retry_stores_by me stored volatile (Overtaken s) allowed = absurd (none-some _ (sym allowed))

pub retry_stores : (me : ℕ) (stored : DurableState Definition) (volatile : VolatileState Definition) → reject_retry stored volatile.proposing ≡ None → IsSome (on_retry me stored volatile).entry
unfolding on_retry
retry_stores me stored volatile allowed = retry_stores_by me stored volatile volatile.proposing allowed

-- ---- a definition that is chosen

-- the transition if its sequence is the next
abbrev pub publishing : VolatileState Definition → ℕ → Definition → Transition Definition
publishing volatile s d = record { entry = Some (stored_part.Published s d); messages = []; volatile = after_publishing definition_eq volatile d }

pub chosen_next : (stored : DurableState Definition) (volatile : VolatileState Definition) (s : ℕ) (d : Definition) → s ≡ length stored.history + 1 →
    on_chosen definition_eq stored volatile s d ≡ publishing volatile s d
unfolding on_chosen next_sequence published
chosen_next stored volatile s d is = rw (eq-eqb s (length stored.history + 1) is) refl

pub chosen_later : (stored : DurableState Definition) (volatile : VolatileState Definition) (s next : ℕ) (d : Definition) → next ≡ length stored.history + 1 → next < s →
    on_chosen definition_eq stored volatile s d ≡ only_sends volatile (Ask next ∷ [])
unfolding on_chosen next_sequence published
chosen_later stored volatile s next d is later =
    let differs : (s == length stored.history + 1) ≡ false = ne_eqb s (length stored.history + 1) (λ e. omega (arith, e, is, later)) in
    let above : nat_lt (length stored.history + 1) s ≡ true = lt-ltb (length stored.history + 1) s (subst (λ n. n < s) is later) in
    rw (differs, above, is) refl

pub chosen_known : (stored : DurableState Definition) (volatile : VolatileState Definition) (s : ℕ) (d : Definition) → s < length stored.history + 1 →
    on_chosen definition_eq stored volatile s d ≡ only_sends volatile []
unfolding on_chosen quiet only_sends next_sequence published
chosen_known stored volatile s d known =
    let differs : (s == length stored.history + 1) ≡ false = ne_eqb s (length stored.history + 1) (λ e. omega (arith, e, known)) in
    let below : nat_lt (length stored.history + 1) s ≡ false = le-ltb (length stored.history + 1) s (omega (arith, known)) in
    rw (differs, below) refl

-- at most, and not equal
pub below_else : (a b : ℕ) → (a ≡ b → ⊥) → a ≤ b → a < b
below_else a b differs most = elim (cases_lt a b) as (λ x. a < b) [
  | inl less ↦ less
  | inr more ↦ absurd (differs (omega (arith, most, more)))
]

-- if all sequences are published, each one is
pub within_all : (s n : ℕ) → s ≤ last_sequence → (n < last_sequence → ⊥) → s < n + 1
within_all s n to all = omega (arith, to, all)

pub next_fits : (stored : DurableState Definition) (s : ℕ) (d : Definition) → s ≡ length stored.history + 1 → fits stored (stored_part.Published s d) ≡ true
unfolding fits next_sequence published
next_fits stored s d is = eq-eqb s (length stored.history + 1) is

-- ---- a proposal that the table rejects

pub busy : (stored : DurableState Definition) (leadership : Option (Leadership Definition)) (proposing : Proposing Definition) → runs proposing ≡ true →
    reject_proposal stored leadership proposing ≡ Some Busy
unfolding reject_proposal
busy stored leadership Idle is = absurd (false≢true is)
busy stored leadership (Running proposal) is = refl
busy stored leadership (Won s) is = absurd (false≢true is)
busy stored leadership (Overtaken s) is = absurd (false≢true is)

pub full : (stored : DurableState Definition) (leadership : Option (Leadership Definition)) (proposing : Proposing Definition) → runs proposing ≡ false →
    nat_le last_sequence (length stored.history) ≡ true → reject_proposal stored leadership proposing ≡ Some SequenceFull
unfolding reject_proposal published
full stored leadership Idle is last = rw last refl
full stored leadership (Running proposal) is last = absurd (true≢false is)
full stored leadership (Won s) is last = rw last refl
full stored leadership (Overtaken s) is last = rw last refl

-- the stored state has the round and the sequence that a proposer is given
pub has_stored : (stored : DurableState Definition) (tried sequence : ℕ) → tried ≡ stored.tried → sequence ≡ length stored.history → HasStored stored tried sequence
unfolding published
has_stored stored tried sequence same up_to = record { tried = sym same; up_to = sym up_to }
