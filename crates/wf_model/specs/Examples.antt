-- Example runs and what they leave. Each is proved by computing the run.
use Rattle.std.specs.Prelude.{◌≡◌, ℕ, zero, suc, Bool, true, false, List, [], ◌∷◌, ◌++◌, length, map, replicate, drop, slice_get, Option, Some, None, option_and_then}
use Rattle.wf_ballot.specs.Ballot.{Ballot, last_round}
use Rattle.wf_ballot.specs.Sequence.{last_sequence}
use Rattle.wf_model.specs.Message.{Vote, Message}
use Rattle.wf_model.specs.DurableState.{DurableState}
use Rattle.wf_model.specs.VolatileState.{Proposing, Idle, Running, Won, Overtaken, VolatileState, at_start}
use Rattle.wf_model.specs.World.{World, Node, Event, Stop, Restart, Torn, Kept, propose, retry, catch_up, deliver, after}
use Rattle.wf_model.specs.Table as table

-- two definitions, and the empty map
pub data Map : Type 0 where
  a b empty : Map

unfoldable pub same_map : Map → Map → Bool
same_map a a = true
same_map b b = true
same_map empty empty = true
same_map x y = false

-- ---- what is observed

-- what each node published
unfoldable pub histories : List (Node Map) → List (List Map)
histories nodes = map (λ node. node.stored.history) nodes

-- the state of a node's proposal
pub data ProposalState : Type 0 where
  Stopped NoProposal Runs : ProposalState
  PublishedAt OvertakenAt : (sequence : ℕ) → ProposalState

unfoldable pub proposal_state_by : Proposing Map → ProposalState
proposal_state_by Idle = NoProposal
proposal_state_by (Running proposal) = Runs
proposal_state_by (Won s) = PublishedAt s
proposal_state_by (Overtaken s) = OvertakenAt s

unfoldable pub proposal_state_of : Option (VolatileState Map) → ProposalState
proposal_state_of None = Stopped
proposal_state_of (Some volatile) = proposal_state_by volatile.proposing

unfoldable pub proposal_state : World Map → ℕ → ProposalState
proposal_state w i = proposal_state_of (option_and_then (λ (node : Node Map). node.volatile) (slice_get w.nodes i))

-- the world after these events, from a start with n nodes
abbrev pub run : ℕ → List (Event Map) → World Map
run n events = after same_map n events

-- the run leaves these published lists, and that many messages were sent
abbrev pub Leaves : ℕ → List (Event Map) → List (List Map) → ℕ → Type 0
Leaves n events lists messages = (histories (run n events).nodes ≡ lists) × (length (run n events).sent ≡ messages)

-- the run leaves this published list on each of the nodes, and that many messages were sent
abbrev pub LeavesEach : ℕ → List (Event Map) → List Map → ℕ → Type 0
LeavesEach n events published messages = Leaves n events (replicate n published) messages

-- lists with nothing published, and with one definition
abbrev pub none : List Map
none = []

abbrev pub just : Map → List Map
just d = d ∷ []

-- the messages that were sent, from number k on
unfoldable pub sent_from : World Map → ℕ → List (Message Map)
sent_from w k = drop k w.sent

-- a ballot, and a vote; and the report of a node that has voted at none of the four sequences
abbrev pub ballot : ℕ → ℕ → Ballot
ballot round node = record { round = round; node = node }

abbrev pub vote : ℕ → ℕ → Map → Vote Map
vote round node d = record { ballot = ballot round node; definition = d }

abbrev pub no_votes : List (Option (Vote Map))
no_votes = None ∷ None ∷ None ∷ None ∷ []

-- ---- deliveries

-- message k to each of the nodes
unfoldable pub to_each : List ℕ → ℕ → List (Event Map)
to_each nodes k = map (λ i. deliver i k) nodes

-- the messages from number k on, n of them, each to each of the nodes
unfoldable pub pump : List ℕ → ℕ → ℕ → List (Event Map)
pump nodes k zero = []
pump nodes k (suc count) = to_each nodes k ++ pump nodes (suc k) count

-- each message below n, the last first, three times to each of the nodes
unfoldable pub thrice_back : List ℕ → ℕ → List (Event Map)
thrice_back nodes zero = []
thrice_back nodes (suc k) = (to_each nodes k ++ (to_each nodes k ++ to_each nodes k)) ++ thrice_back nodes k

-- ---- the runs

-- one node is its own majority
unfoldable pub alone : List (Event Map)
alone = propose 0 a ∷ deliver 0 0 ∷ deliver 0 1 ∷ deliver 0 2 ∷ deliver 0 3 ∷ []

unfoldable pub three_pumped : List (Event Map)
three_pumped = propose 0 a ∷ pump (0 ∷ 1 ∷ 2 ∷ []) 0 9

-- two of four nodes receive the proposal: that is no majority
unfoldable pub two_of_four : List (Event Map)
two_of_four = propose 0 a ∷ pump (0 ∷ 1 ∷ []) 0 3

-- then a third one receives it
unfoldable pub three_of_four : List (Event Map)
three_of_four = two_of_four ++ (deliver 2 0 ∷ pump (0 ∷ 1 ∷ 2 ∷ 3 ∷ []) 3 7)

-- node 0 receives its own Accept, and no other node does, so it alone has voted
unfoldable pub half_accepted : List (Event Map)
half_accepted = propose 0 a ∷ deliver 0 0 ∷ deliver 1 0 ∷ deliver 0 1 ∷ deliver 0 2 ∷ deliver 0 3 ∷ []

-- it stops; the other two publish another definition meanwhile; it comes back, proposes again, and
-- is sent that definition
unfoldable pub comes_back : List (Event Map)
comes_back =
    half_accepted ++ (
    Stop 0 ∷ propose 2 b ∷ deliver 1 5 ∷ deliver 2 5 ∷ deliver 2 6 ∷ deliver 2 7 ∷ deliver 1 8 ∷ deliver 2 8 ∷ deliver 2 9 ∷ deliver 2 10 ∷
    Restart 0 ∷ propose 0 a ∷ deliver 2 12 ∷ deliver 0 13 ∷ []
    )

-- instead of stopping, it reports its vote to the other proposer, which must adopt it
unfoldable pub taken_over : List (Event Map)
taken_over =
    half_accepted ++ (
    propose 2 b ∷ deliver 0 5 ∷ deliver 2 5 ∷ deliver 2 6 ∷ deliver 2 7 ∷ deliver 0 8 ∷ deliver 2 8 ∷ deliver 2 9 ∷ deliver 2 10 ∷ []
    )

-- it receives its Accept twice: it answers twice, and its vote isn't counted twice
unfoldable pub voted_once : List (Event Map)
voted_once = half_accepted ++ (deliver 0 3 ∷ deliver 0 4 ∷ deliver 0 5 ∷ [])

-- node 1, with a higher ballot, publishes b before node 0's Accept reaches any node; then nodes 0
-- and 2 receive it
unfoldable pub late_accept : List (Event Map)
late_accept =
    propose 0 a ∷ deliver 0 0 ∷ deliver 1 0 ∷ deliver 0 1 ∷ deliver 0 2 ∷
    propose 1 b ∷ deliver 1 4 ∷ deliver 2 4 ∷ deliver 1 5 ∷ deliver 1 6 ∷ deliver 1 7 ∷ deliver 2 7 ∷ deliver 1 8 ∷ deliver 1 9 ∷
    deliver 0 3 ∷ deliver 2 3 ∷ deliver 0 11 ∷ deliver 0 12 ∷ []

-- node 0 retries; it is sent its own vote for a and node 2's for b, which is at the higher ballot
unfoldable pub two_reported : List (Event Map)
two_reported = late_accept ++ (retry 0 ∷ deliver 2 13 ∷ deliver 0 13 ∷ deliver 0 14 ∷ deliver 0 15 ∷ [])

-- it receives its first Accept again: it voted at that ballot, and has promised a higher one since
unfoldable pub old_accept : List (Event Map)
old_accept = two_reported ++ (deliver 0 3 ∷ [])

-- node 1 tries three rounds, and node 2 receives only the third; node 0 comes with its first, is
-- rejected, and retries
unfoldable pub outrun : List (Event Map)
outrun = propose 1 b ∷ retry 1 ∷ retry 1 ∷ deliver 2 2 ∷ propose 0 a ∷ deliver 2 4 ∷ deliver 0 5 ∷ retry 0 ∷ []

-- two more proposals, of which node 2 receives nothing until the last one's Chosen; it then asks
unfoldable pub behind : List (Event Map)
behind =
    three_pumped ++ (
    propose 0 b ∷ (pump (0 ∷ 1 ∷ []) 9 4 ++ (
    propose 0 a ∷ (pump (0 ∷ 1 ∷ []) 13 4 ++ (
    deliver 2 16 ∷ deliver 0 17 ∷ deliver 2 18 ∷ deliver 2 19 ∷ []))))
    )

-- two of three nodes publish; the third one received nothing, and asks by itself
unfoldable pub catches_up : List (Event Map)
catches_up = propose 0 a ∷ (pump (0 ∷ 1 ∷ []) 0 7 ++ (catch_up 2 ∷ deliver 1 7 ∷ deliver 2 8 ∷ []))

-- node 1 asks for votes, stops, comes back and makes another proposal
unfoldable pub new_round : List (Event Map)
new_round =
    propose 1 b ∷ deliver 1 0 ∷ deliver 0 0 ∷ deliver 1 1 ∷ deliver 1 2 ∷ deliver 1 3 ∷ Stop 1 ∷ Restart 1 ∷ propose 1 a ∷ []

-- all messages are delivered three times more, in reverse order
unfoldable pub repeated : List (Event Map)
repeated = three_pumped ++ thrice_back (0 ∷ 1 ∷ 2 ∷ []) 9

-- a crash within a step, its node comes back, and the same message is delivered again
unfoldable pub torn : Kept → List (Event Map)
torn kept = propose 0 a ∷ deliver 0 0 ∷ deliver 0 1 ∷ Torn 1 (table.Deliver 0) kept ∷ Restart 1 ∷ deliver 1 0 ∷ []

-- then the proposer retries, and all nodes receive what is sent from then on
unfoldable pub torn_then : Kept → ℕ → List (Event Map)
torn_then kept messages = torn kept ++ (retry 0 ∷ pump (0 ∷ 1 ∷ 2 ∷ []) messages 9)

-- node 0 makes a second proposal, as the leader, then a third and a fourth, and a fifth for which
-- it must ask for promises again
unfoldable pub two_led : List (Event Map)
two_led = three_pumped ++ (propose 0 a ∷ pump (0 ∷ 1 ∷ 2 ∷ []) 9 5)

unfoldable pub four_led : List (Event Map)
four_led = two_led ++ (propose 0 a ∷ (pump (0 ∷ 1 ∷ 2 ∷ []) 14 5 ++ (propose 0 a ∷ pump (0 ∷ 1 ∷ 2 ∷ []) 19 5)))

unfoldable pub fifth_prepared : List (Event Map)
fifth_prepared = four_led ++ (propose 0 a ∷ pump (0 ∷ 1 ∷ 2 ∷ []) 24 9)

-- between two proposals of node 0, node 1 makes one; node 0 still leads, and asks for votes below
-- what the others promised since
unfoldable pub led_too_low : List (Event Map)
led_too_low = three_pumped ++ (propose 1 b ∷ (pump (0 ∷ 1 ∷ 2 ∷ []) 9 9 ++ (propose 0 a ∷ pump (0 ∷ 1 ∷ 2 ∷ []) 18 4)))

-- it retries, with a new round
unfoldable pub led_again : List (Event Map)
led_again = led_too_low ++ (retry 0 ∷ pump (0 ∷ 1 ∷ 2 ∷ []) 22 9)

-- Node 0 leads and stops while its second proposal runs; node 1 voted for both, and learned
-- nothing. Node 2 becomes the leader and makes two proposals: it is told both votes of node 1, and
-- must adopt each at its sequence.
unfoldable pub reported_ahead : List (Event Map)
reported_ahead =
    propose 0 a ∷ deliver 0 0 ∷ deliver 1 0 ∷ deliver 0 1 ∷ deliver 0 2 ∷ deliver 0 3 ∷ deliver 1 3 ∷ deliver 0 4 ∷ deliver 0 5 ∷
    propose 0 b ∷ deliver 1 7 ∷ Stop 0 ∷
    propose 2 b ∷ deliver 2 9 ∷ deliver 1 9 ∷ deliver 2 10 ∷ deliver 2 11 ∷ deliver 1 12 ∷ deliver 2 12 ∷ deliver 2 13 ∷ deliver 2 14 ∷
    propose 2 a ∷ deliver 1 16 ∷ deliver 2 16 ∷ deliver 2 17 ∷ deliver 2 18 ∷ []

-- A node stops after its first proposal: the leadership is lost, and its next proposal asks for
-- promises.
unfoldable pub leader_restarts : List (Event Map)
leader_restarts = three_pumped ++ (Stop 0 ∷ Restart 0 ∷ propose 0 b ∷ [])

-- a node at the last sequence, and one that tried the last round
unfoldable pub full_history : DurableState Map
full_history = record { tried = 1; promise = None; votes = λ s. None; history = replicate last_sequence a }

unfoldable pub full_rounds : DurableState Map
full_rounds = record { tried = last_round; promise = None; votes = λ s. None; history = [] }

-- a farm of one node, with this stored state and no proposal
unfoldable pub only : DurableState Map → World Map
only stored = record { nodes = record { stored = stored; volatile = Some at_start } ∷ []; sent = [] }

-- it leads from sequence 1 on, at the last round
unfoldable pub last_leader : World Map
last_leader =
    record {
      nodes = record {
        stored = full_rounds;
        volatile = Some (record { proposing = Idle; leadership = Some (record { base = 1; ballot = ballot last_round 0; best = no_votes }) });
      } ∷ [];
      sent = [];
    }
