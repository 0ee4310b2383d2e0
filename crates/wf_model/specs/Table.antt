-- What one step of a node does: the transitions of the step table, one small function each. A
-- transition is data: the record to store, the messages to send after that, and the next volatile
-- state.
use Rattle.std.specs.Prelude.{ℕ, zero, suc, ◌+◌, max, Bool, true, false, not, List, [], ◌∷◌, ◌++◌, Option, Some, None, ◌==◌, nat_lt, nat_le, ◌&&◌, if◌then◌else◌}
use Rattle.wf_ballot.specs.Ballot.{last_round, Ballot, below}
use Rattle.wf_ballot.specs.Sequence.{last_sequence}
use Rattle.wf_ballot.specs.Majority.{count_nodes, is_majority_of}
use Rattle.wf_model.specs.Message.{Vote, Message, Prepare, Promise, Accept, Accepted, Nack, Chosen, Ask, from_sequence}
use Rattle.wf_model.specs.DurableState as stored_part
use Rattle.wf_model.specs.DurableState.{DurableState, Record, published, next_sequence, definition_at, with_record}
use Rattle.wf_model.specs.VolatileState.{Phase, Preparing, Accepting, Proposal, Proposing, Idle, Running, Won, Overtaken, Leadership, VolatileState, nobody, and_node, better_each, proposed, same_ballot, same_phase, is_at, window, leading_at}

-- the most published definitions that answer one Ask
abbrev pub most_reports : ℕ
most_reports = 8

-- A transition. The entry is the record that the step stores, None if it stores none.
pub record Transition (V : Type 0) : Type 0 where
  pub entry : Option (Record V)
  pub messages : List (Message V)
  pub volatile : VolatileState V

-- the stored state after a transition's record
unfoldable pub store : {V : Type 0} → DurableState V → Option (Record V) → DurableState V
store stored None = stored
store stored (Some r) = with_record stored r

-- a transition that stores nothing and sends nothing; one that only sends; one that stores and
-- sends
unfoldable pub quiet : {V : Type 0} → VolatileState V → Transition V
quiet volatile = record { entry = None; messages = []; volatile = volatile }

unfoldable pub only_sends : {V : Type 0} → VolatileState V → List (Message V) → Transition V
only_sends volatile messages = record { entry = None; messages = messages; volatile = volatile }

unfoldable pub stores : {V : Type 0} → VolatileState V → Record V → Message V → Transition V
stores volatile r message = record { entry = Some r; messages = message ∷ []; volatile = volatile }

-- the transition of the running proposal; if none runs, nothing happens
abbrev pub running_transition : {V : Type 0} → VolatileState V → Proposing V → (Proposal V → Transition V) → Transition V
running_transition volatile (Running proposal) transition_of = transition_of proposal
running_transition volatile proposing transition_of = quiet volatile

abbrev pub when_running : {V : Type 0} → VolatileState V → (Proposal V → Transition V) → Transition V
when_running volatile transition_of = running_transition volatile volatile.proposing transition_of

-- the volatile state in which this proposal runs
unfoldable pub with_proposal : {V : Type 0} → VolatileState V → Proposal V → VolatileState V
with_proposal volatile proposal = record volatile { proposing = Running proposal }

-- ---- actions of a node

-- A proposal, a retry of the running one, a question for the next definition, or a delivered
-- message: `M` is the message itself in a node's input, and its number in an event.
pub data Action (V M : Type 0) : Type 0 where
  Propose : (definition : V) → Action V M
  Retry : Action V M
  CatchUp : Action V M
  Deliver : (message : M) → Action V M

abbrev pub Input : Type 0 → Type 0
Input V = Action V (Message V)

-- ---- rejections

pub data StepRejection : Type 0 where
  Busy SequenceFull RoundsFull NothingToRetry : StepRejection

unfoldable pub rounds_full : ℕ → Option StepRejection
rounds_full round = if nat_le last_round round then Some RoundsFull else None

-- the highest round that a proposal knows of: its node's own, or one reported in a Nack
unfoldable pub round_known : {V : Type 0} → DurableState V → Proposal V → ℕ
round_known stored proposal = max stored.tried proposal.seen

-- A leader needs no new round.
unfoldable pub reject_round : {V : Type 0} → DurableState V → Option (Leadership V) → Option StepRejection
reject_round stored None = rounds_full stored.tried
reject_round stored (Some leadership) = None

unfoldable pub reject_proposal : {V : Type 0} → DurableState V → Option (Leadership V) → Proposing V → Option StepRejection
reject_proposal stored leadership (Running proposal) = Some Busy
reject_proposal stored leadership proposing =
    if nat_le last_sequence (published stored) then Some SequenceFull else reject_round stored (leading_at leadership (next_sequence stored))

unfoldable pub reject_retry : {V : Type 0} → DurableState V → Proposing V → Option StepRejection
reject_retry stored (Running proposal) = rounds_full (round_known stored proposal)
reject_retry stored proposing = Some NothingToRetry

-- A rejected step changes nothing. A running node rejects a proposal; none begins past the last
-- sequence or the last round; only a running proposal is retried.
unfoldable pub step_rejection : {V : Type 0} → DurableState V → VolatileState V → Input V → Option StepRejection
step_rejection stored volatile (Propose d) = reject_proposal stored volatile.leadership volatile.proposing
step_rejection stored volatile Retry = reject_retry stored volatile.proposing
step_rejection stored volatile CatchUp = None
step_rejection stored volatile (Deliver message) = None

-- ---- proposals begin

-- A proposal of `own` begins, or begins again, at a round that its node hasn't tried: the round is
-- stored before any Prepare is sent. A leadership ends.
unfoldable pub begin_at : {V : Type 0} → ℕ → DurableState V → V → ℕ → Transition V
begin_at me stored own round =
    let ballot : Ballot = record { round = round; node = me } in
    stores
    (record {
      proposing = Running (record {
        sequence = next_sequence stored;
        ballot = ballot;
        own = own;
        phase = Preparing;
        responders = nobody;
        best = [];
        seen = 0;
      });
      leadership = None;
    })
    (stored_part.Tried round) (Prepare (next_sequence stored) ballot)

-- A proposal asks for votes: for the best vote reported at its sequence, or else for its own
-- definition.
unfoldable pub ask_votes : {V : Type 0} → Leadership V → Proposal V → Transition V
ask_votes leadership proposal =
    only_sends (record { proposing = Running proposal; leadership = Some leadership }) (Accept proposal.sequence proposal.ballot (proposed proposal) ∷ [])

-- A leader's proposal of `own` begins by asking for votes: a majority has promised its ballot
-- already, and reported its votes.
unfoldable pub lead : {V : Type 0} → DurableState V → Leadership V → V → Transition V
lead stored leadership own = ask_votes leadership (record {
  sequence = next_sequence stored;
  ballot = leadership.ballot;
  own = own;
  phase = Accepting;
  responders = nobody;
  best = from_sequence leadership.base leadership.best (next_sequence stored);
  seen = 0;
})

unfoldable pub propose_by : {V : Type 0} → ℕ → DurableState V → Option (Leadership V) → V → Transition V
propose_by me stored None own = begin_at me stored own (stored.tried + 1)
propose_by me stored (Some leadership) own = lead stored leadership own

unfoldable pub on_propose : {V : Type 0} → ℕ → DurableState V → VolatileState V → V → Transition V
on_propose me stored volatile own = propose_by me stored (leading_at volatile.leadership (next_sequence stored)) own

unfoldable pub on_retry : {V : Type 0} → ℕ → DurableState V → VolatileState V → Transition V
on_retry me stored volatile = when_running volatile (λ proposal. begin_at me stored proposal.own (round_known stored proposal + 1))

unfoldable pub on_catch_up : {V : Type 0} → DurableState V → VolatileState V → Transition V
on_catch_up stored volatile =
    if nat_lt (published stored) last_sequence then only_sends volatile (Ask (next_sequence stored) ∷ []) else quiet volatile

-- ---- published definitions are sent

-- Chosen for the published definition of sequence s, if there is one
unfoldable pub reports_of : {V : Type 0} → ℕ → Option V → List (Message V)
reports_of s None = []
reports_of s (Some d) = Chosen s d ∷ []

unfoldable pub reports : {V : Type 0} → List V → ℕ → List (Message V)
reports history s = reports_of s (definition_at history s)

-- Chosen for each published definition of the `count` sequences from s on
unfoldable pub reports_from : {V : Type 0} → List V → ℕ → ℕ → List (Message V)
reports_from history s zero = []
reports_from history s (suc count) = reports history s ++ reports_from history (suc s) count

unfoldable pub on_ask : {V : Type 0} → DurableState V → VolatileState V → ℕ → Transition V
on_ask stored volatile s = only_sends volatile (reports_from stored.history s most_reports)

-- ---- the acceptor

-- the ballot is above the promise, or there is no promise; and: the ballot is below the promise
abbrev pub is_above : Option Ballot → Ballot → Bool
is_above None b = true
is_above (Some promise) b = below promise b

abbrev pub is_rejected : Option Ballot → Ballot → Bool
is_rejected None b = false
is_rejected (Some promise) b = below b promise

-- the Nack with the promise
abbrev pub nack : {V : Type 0} → ℕ → ℕ → Ballot → Option Ballot → List (Message V)
nack me s b None = []
nack me s b (Some promise) = Nack me s b promise ∷ []

-- the number of sequences from s on, at most `count`
unfoldable pub sequences_from : ℕ → ℕ → ℕ
sequences_from s zero = 0
sequences_from s (suc count) = if nat_le s last_sequence then suc (sequences_from (suc s) count) else 0

-- the votes at the `count` sequences from s on, as far as there are sequences
unfoldable pub votes_from : {V : Type 0} → (ℕ → Option (Vote V)) → ℕ → ℕ → List (Option (Vote V))
votes_from votes s zero = []
votes_from votes s (suc count) = if nat_le s last_sequence then votes s ∷ votes_from votes (suc s) count else []

-- It promises the ballot for s and all later sequences, and reports its votes at the first few of
-- them.
unfoldable pub promise_to : {V : Type 0} → ℕ → DurableState V → VolatileState V → ℕ → Ballot → Transition V
promise_to me stored volatile s b =
    stores volatile (stored_part.Promised s b) (Promise me s b (votes_from stored.votes s window))

-- a Prepare of a sequence that isn't published, by the promise
unfoldable pub prepare_open : {V : Type 0} → ℕ → DurableState V → VolatileState V → ℕ → Ballot → Option Ballot → Transition V
prepare_open me stored volatile s b promise =
    if is_above promise b then promise_to me stored volatile s b
    else (if is_rejected promise b then only_sends volatile (nack me s b promise)
    else quiet volatile)

unfoldable pub on_prepare : {V : Type 0} → ℕ → DurableState V → VolatileState V → ℕ → Ballot → Transition V
on_prepare me stored volatile s b =
    if nat_le s (published stored) then only_sends volatile (reports stored.history s)
    else prepare_open me stored volatile s b stored.promise

-- whether the vote was given at this ballot
unfoldable pub votes_at : {V : Type 0} → Option (Vote V) → Ballot → Bool
votes_at None b = false
votes_at (Some vote) b = same_ballot vote.ballot b

-- It repeats its answer if it voted at this ballot, and otherwise it votes.
unfoldable pub vote_for : {V : Type 0} → ℕ → DurableState V → VolatileState V → ℕ → Ballot → V → Transition V
vote_for me stored volatile s b d =
    if votes_at (stored.votes s) b then only_sends volatile (Accepted me s b ∷ [])
    else stores volatile (stored_part.Accepted s b d) (Accepted me s b)

-- an Accept of a sequence that isn't published, by the promise: below the promise there is no vote
unfoldable pub accept_open : {V : Type 0} → ℕ → DurableState V → VolatileState V → ℕ → Ballot → V → Option Ballot → Transition V
accept_open me stored volatile s b d promise =
    if is_rejected promise b then only_sends volatile (nack me s b promise)
    else vote_for me stored volatile s b d

unfoldable pub on_accept : {V : Type 0} → ℕ → DurableState V → VolatileState V → ℕ → Ballot → V → Transition V
on_accept me stored volatile s b d =
    if nat_le s (published stored) then only_sends volatile (reports stored.history s)
    else accept_open me stored volatile s b d stored.promise

-- ---- the proposer

-- A proposal counts an answer if it is of its phase, sequence and ballot, from a node below n whose
-- answer it hasn't counted.
unfoldable pub is_new_response : {V : Type 0} → ℕ → Proposal V → Phase → ℕ → ℕ → Ballot → Bool
is_new_response n proposal phase sender s b =
    same_phase proposal.phase phase && (is_at proposal s b && (nat_lt sender n && not (proposal.responders sender)))

-- the proposal after a promise, and once a majority has promised: no answer to its Accept is
-- counted yet
unfoldable pub with_promise : {V : Type 0} → Proposal V → ℕ → List (Option (Vote V)) → Proposal V
with_promise proposal sender votes =
    record proposal { responders = and_node proposal.responders sender; best = better_each proposal.best votes }

unfoldable pub asking_votes : {V : Type 0} → Proposal V → Proposal V
asking_votes proposal = record proposal { phase = Accepting; responders = nobody }

-- the leadership that a majority's promises to the proposal give its node
unfoldable pub leadership_of : {V : Type 0} → Proposal V → Leadership V
leadership_of proposal = record { base = proposal.sequence; ballot = proposal.ballot; best = proposal.best }

unfoldable pub promised : {V : Type 0} → ℕ → VolatileState V → Proposal V → Transition V
promised n volatile proposal =
    if is_majority_of (count_nodes n proposal.responders) n
    then ask_votes (leadership_of proposal) (asking_votes proposal)
    else quiet (with_proposal volatile proposal)

unfoldable pub on_promise : {V : Type 0} → ℕ → VolatileState V → ℕ → ℕ → Ballot → List (Option (Vote V)) → Transition V
on_promise n volatile sender s b votes = when_running volatile (λ proposal.
    if is_new_response n proposal Preparing sender s b then promised n volatile (with_promise proposal sender votes) else quiet volatile)

unfoldable pub with_vote : {V : Type 0} → Proposal V → ℕ → Proposal V
with_vote proposal sender = record proposal { responders = and_node proposal.responders sender }

unfoldable pub on_nack : {V : Type 0} → VolatileState V → ℕ → Ballot → Ballot → Transition V
on_nack volatile s b promise = when_running volatile (λ proposal.
    if is_at proposal s b then quiet (with_proposal volatile (record proposal { seen = max proposal.seen promise.round })) else quiet volatile)

-- ---- the transitions that distinguish a node's own definition from another's

-- `same` tests two definitions for equality. The theorem of agreement requires nothing of it.
module _ {V : Type 0} (same : V → V → Bool) where
  -- how a proposal ends if d is published at its sequence
  unfoldable pub ended : Proposal V → V → Proposing V
  ended proposal d = if same proposal.own d then Won proposal.sequence else Overtaken proposal.sequence

  unfoldable pub ends : Proposing V → V → Proposing V
  ends (Running proposal) d = ended proposal d
  ends Idle d = Idle
  ends (Won s) d = Won s
  ends (Overtaken s) d = Overtaken s

  -- the volatile state after d is published: a running proposal ends, a leadership stays
  unfoldable pub after_publishing : VolatileState V → V → VolatileState V
  after_publishing volatile d = record volatile { proposing = ends volatile.proposing d }

  unfoldable pub voted : ℕ → VolatileState V → Proposal V → Transition V
  voted n volatile proposal =
      let d : V = proposed proposal in
      if is_majority_of (count_nodes n proposal.responders) n
      then stores (record volatile { proposing = ended proposal d }) (stored_part.Published proposal.sequence d) (Chosen proposal.sequence d)
      else quiet (with_proposal volatile proposal)

  unfoldable pub on_accepted : ℕ → VolatileState V → ℕ → ℕ → Ballot → Transition V
  on_accepted n volatile sender s b = when_running volatile (λ proposal.
      if is_new_response n proposal Accepting sender s b then voted n volatile (with_vote proposal sender) else quiet volatile)

  -- A chosen definition is published if its sequence is the next; if it is later, the missing
  -- definitions are asked for.
  unfoldable pub on_chosen : DurableState V → VolatileState V → ℕ → V → Transition V
  on_chosen stored volatile s d =
      if s == next_sequence stored then record { entry = Some (stored_part.Published s d); messages = []; volatile = after_publishing volatile d }
      else (if nat_lt (next_sequence stored) s then only_sends volatile (Ask (next_sequence stored) ∷ []) else quiet volatile)

  -- ---- the table: the transition of node `me` of n

  unfoldable pub on_message : ℕ → ℕ → DurableState V → VolatileState V → Message V → Transition V
  on_message n me stored volatile (Prepare s b) = on_prepare me stored volatile s b
  on_message n me stored volatile (Promise sender s b votes) = on_promise n volatile sender s b votes
  on_message n me stored volatile (Accept s b d) = on_accept me stored volatile s b d
  on_message n me stored volatile (Accepted sender s b) = on_accepted n volatile sender s b
  on_message n me stored volatile (Nack sender s b promise) = on_nack volatile s b promise
  on_message n me stored volatile (Chosen s d) = on_chosen stored volatile s d
  on_message n me stored volatile (Ask s) = on_ask stored volatile s

  unfoldable pub transition : ℕ → ℕ → DurableState V → VolatileState V → Input V → Transition V
  transition n me stored volatile (Propose d) = on_propose me stored volatile d
  transition n me stored volatile Retry = on_retry me stored volatile
  transition n me stored volatile CatchUp = on_catch_up stored volatile
  transition n me stored volatile (Deliver message) = on_message n me stored volatile message
