-- The process of an event loop, and the clients that it answered.
use Rattle.std.specs.Prelude.{◌≡◌, ℕ, true, List, [], Option}
use Rattle.std.specs.declared.net.socket_addr.SocketAddr.{SocketAddr}
use Rattle.wf_voter.specs.Process.{Process}
use Rattle.wf_digest.specs.Digest.{AreDigestsOf}
use Rattle.wf_voter.specs.Answer.{AreAnswered, AreEarlier}
use Rattle.wf_voter.specs.Continuation.{HasLearnt, IsHeardKept, besides_asks}
use Rattle.wf_loop.specs.declared.event_loop.EventLoop.{EventLoop}
use Rattle.wf_loop.specs.Readers.{AreRepliedEarlier}
use Rattle.wf_peer_connections.specs.Alarms.{IsDue}
use Rattle.wf_peer_connections.specs.Exchanges.{Exchange}
use Rattle.wf_peer_connections.specs.ReadersPort.{exchanges_of}
use Rattle.wf_membership.specs.declared.gate.Gate.TheVariants as gates
use Rattle.wf_membership.specs.declared.membership.Membership.{Membership}
use Rattle.wf_peer.specs.declared.heard.Heard.{Heard}
use Rattle.wf_sockets.specs.declared.connection.Connection.{Ghosts as Connection}
use Rattle.wf_tape.specs.declared.tape.Tape.{Ghosts as Tape}
use Rattle.wf_visitors.specs.Visitors.{responses_of}

-- the process
abbrev pub process_of : {T N C L : Type 0} {tapes : Tape T} {connections : Connection C} → EventLoop T N C L tapes connections → Process T tapes
process_of event_loop = event_loop.voter.process

-- what the voter takes the file `heard` to have
abbrev pub kept_of : {T N C L : Type 0} {tapes : Tape T} {connections : Connection C} → EventLoop T N C L tapes connections → List (Option Heard)
kept_of event_loop = event_loop.voter.kept

-- the round and the promise of each message of a peer that the node was given are in the file
-- `heard`, which has these bytes
abbrev pub IsHeardFirst : {T N C L : Type 0} {tapes : Tape T} {connections : Connection C} → Option (List ℕ) → EventLoop T N C L tapes connections → Type 0
IsHeardFirst heard event_loop = IsHeardKept heard event_loop.voter

-- where clients come, and the time of the last turn
abbrev pub address_of : {T N C L : Type 0} {tapes : Tape T} {connections : Connection C} → EventLoop T N C L tapes connections → Option SocketAddr
address_of event_loop = event_loop.http

abbrev pub time_of : {T N C L : Type 0} {tapes : Tape T} {connections : Connection C} → EventLoop T N C L tapes connections → ℕ
time_of event_loop = event_loop.time

-- how many messages its node took in
abbrev pub taken_in_by : {T N C L : Type 0} {tapes : Tape T} {connections : Connection C} → EventLoop T N C L tapes connections → ℕ
taken_in_by event_loop = event_loop.parts.peers.steps.number

-- a turn left something to do
abbrev pub IsBusy : {T N C L : Type 0} {tapes : Tape T} {connections : Connection C} → EventLoop T N C L tapes connections → Type 0
IsBusy event_loop = event_loop.is_busy ≡ true

-- a peer remembers more of the node than it has
abbrev pub IsSuspended : {T N C L : Type 0} {tapes : Tape T} {connections : Connection C} → EventLoop T N C L tapes connections → Type 0
IsSuspended event_loop = event_loop.voter.gate ≡ gates.Suspended

-- the history of a peer differs, and those that are heard and agree with this node are no majority
abbrev pub IsOutvoted : {T N C L : Type 0} {tapes : Tape T} {connections : Connection C} → EventLoop T N C L tapes connections → Type 0
IsOutvoted event_loop = event_loop.voter.is_outvoted ≡ true

-- The node was given no message but those that ask for what is published, and no client was
-- answered.
pub record OnlyAnswersAsks {T N C L : Type 0} {tapes : Tape T} {connections : Connection C} (before after : EventLoop T N C L tapes connections) : Type 0 where
  pub given : besides_asks after.voter.process.actor.given.items ≡ besides_asks before.voter.process.actor.given.items
  pub answered : after.clients.before.items ≡ before.clients.before.items

-- what it goes by of replacements
abbrev pub membership_of : {T N C L : Type 0} {tapes : Tape T} {connections : Connection C} → EventLoop T N C L tapes connections → Membership
membership_of event_loop = event_loop.voter.membership

-- its folder joins in the place of a lost one
abbrev pub IsJoiner : {T N C L : Type 0} {tapes : Tape T} {connections : Connection C} → EventLoop T N C L tapes connections → Type 0
IsJoiner event_loop = event_loop.voter.membership.joins ≡ true

-- It still joins; the node was given no message but those that say what is published, and returned
-- none but those that ask for that; and no client was answered.
pub record OnlyLearns {T N C L : Type 0} {tapes : Tape T} {connections : Connection C} (before after : EventLoop T N C L tapes connections) : Type 0 where
  pub joins : IsJoiner after
  pub learnt : HasLearnt tapes before.voter.process.actor after.voter.process.actor
  pub answered : after.clients.before.items ≡ before.clients.before.items

-- what was written is for the next start of the folder, and the process is to end
abbrev pub IsOver : {T N C L : Type 0} {tapes : Tape T} {connections : Connection C} → EventLoop T N C L tapes connections → Type 0
IsOver event_loop = event_loop.parts.peers.is_over ≡ true

-- Each client that was answered was sent the response, to what had come of its request, of a
-- process that had lived: of this one, as it was just before.
pub record HasAnswered {T N C L : Type 0} (tapes : Tape T) {connections : Connection C} (event_loop : EventLoop T N C L tapes connections) : Type 0 where
  pub each : ∥ AreAnswered tapes event_loop.clients.before.items (responses_of event_loop.clients.visitors) event_loop.clients.after.items ∥₁
  pub earlier : ∥ AreEarlier tapes event_loop.clients.before.items event_loop.voter.process ∥₁

-- each question that a reader of this port asked, with its reply
abbrev pub replied_by : {T N C L : Type 0} {tapes : Tape T} {connections : Connection C} → EventLoop T N C L tapes connections → List Exchange
replied_by event_loop = exchanges_of event_loop.parts.desk.readers

-- Each of them was replied by the list that the node of this process had, as it was just before.
abbrev pub HasRepliedEarlier : {T N C L : Type 0} (tapes : Tape T) {connections : Connection C} → EventLoop T N C L tapes connections → Type 0
HasRepliedEarlier tapes event_loop = ∥ AreRepliedEarlier tapes event_loop.voter.process (replied_by event_loop) ∥₁

-- The node greets by this start of its folder, and with digests that begin anew.
pub record GreetsAsNow {T N C L : Type 0} {tapes : Tape T} {connections : Connection C} (count : ℕ) (event_loop : EventLoop T N C L tapes connections) : Type 0 where
  pub starts : event_loop.parts.peers.plan.start.starts ≡ count
  pub digests : AreDigestsOf [] event_loop.parts.peers.table.digests

-- the node is halted, and it is time to open its tape again
abbrev pub IsReopeningDue : {T N C L : Type 0} {tapes : Tape T} {connections : Connection C} → EventLoop T N C L tapes connections → Type 0
IsReopeningDue event_loop = (event_loop.voter.process.actor.node.halted ≡ true) × IsDue event_loop.timers.reopening event_loop.time
