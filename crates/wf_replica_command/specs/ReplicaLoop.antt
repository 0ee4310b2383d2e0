-- The replica of an event loop, what it heard, and the clients that it answered.
use Rattle.std.specs.Prelude.{◌≡◌, ℕ, Bool, true, List, [], ◌++◌}
use Rattle.wf_execution.specs.Execution.{Execution}
use Rattle.wf_execution.specs.Replica.{IsListOfFarm}
use Rattle.wf_client.specs.Client.{Client}
use Rattle.wf_reader.specs.declared.reply.Reply.{Reply}
use Rattle.wf_readers_port.specs.Exchanges.{Exchange}
use Rattle.wf_readers_port.specs.ReadersPort.{exchanges_of}
use Rattle.wf_replica.specs.Follower.{answers_of, list_of, read_by, received_by}
use Rattle.wf_replica.specs.Heard.{CameByAnswers}
use Rattle.wf_replica.specs.Recorded.{IsRecorded}
use Rattle.wf_replica.specs.Theorems.{AreReported}
use Rattle.wf_replica.specs.LearnedList.{learned, numbered}
use Rattle.wf_replica.specs.Refusals.{all_refuse}
use Rattle.wf_replica.specs.declared.follower.Follower.{Follower}
use Rattle.wf_replica_command.specs.Answer.{AreAnswered, AreInOrder}
use Rattle.wf_replica_command.specs.Continuation.{IsLaterReplica}
use Rattle.wf_replica_command.specs.Conversation.{AreHeardOn, Conversation, conversations_on}
use Rattle.wf_replica_command.specs.Heard.{AreHeard, IsFewer, course_of}
use Rattle.wf_replica_command.specs.Readers.{AreRepliedByBeginnings}
use Rattle.wf_replica_command.specs.declared.asked.Asked.{Asked}
use Rattle.wf_replica_command.specs.declared.replica_loop.ReplicaLoop.{ReplicaLoop}
use Rattle.wf_replica_command.specs.declared.event_loop.Turn.{Turn}
use Rattle.wf_replica_command.specs.declared.event_loop.Turn.TheVariants as turns
use Rattle.wf_replica_command.specs.declared.renderer.Renderer.{Renderer}
use Rattle.wf_sockets.specs.declared.connection.Connection.{Ghosts as Connection}
use Rattle.wf_tape.specs.declared.tape.Tape.{Ghosts as Tape}
use Rattle.wf_visitors.specs.Visitors.{responses_of}

-- All of an event loop but its sockets: the replica; the replies that it heard, and of each the
-- connection on which it came, as that then was; which of its sources refuse it; each client that
-- was answered, with the replica as it then was; and each question of a reader with its reply.
pub record ReplicaState {T : Type 0} (tapes : Tape T) : Type 0 where
  pub follower : Follower T tapes
  pub heard : List (Reply × Asked)
  pub conversations : List Conversation
  pub refusals : List Bool
  pub asked : List (Renderer T tapes × ℕ)
  pub responses : List (Client × ℕ)
  pub exchanges : List Exchange

abbrev pub state_of : {T N C L : Type 0} {tapes : Tape T} {connections : Connection C} → ReplicaLoop T N C L tapes connections → ReplicaState tapes
state_of {connections = connections} event_loop = record {
  follower = event_loop.clients.renderer.follower;
  heard = event_loop.upstream.heard.replies.items;
  conversations = conversations_on connections event_loop.upstream.heard.connections.items;
  refusals = event_loop.upstream.refusals;
  asked = event_loop.clients.asked.items;
  responses = responses_of event_loop.clients.visitors;
  exchanges = exchanges_of event_loop.desk.readers;
}

-- the replica
abbrev pub follower_of : {T : Type 0} {tapes : Tape T} → ReplicaState tapes → Follower T tapes
follower_of event_loop = event_loop.follower

-- its list is what it has heard, message after message, as `wf_execution`'s replica learns it
abbrev pub HasLearned : {T : Type 0} (tapes : Tape T) → ReplicaState tapes → Type 0
HasLearned tapes event_loop = learned [] (received_by (follower_of event_loop)) ≡ list_of (follower_of event_loop)

-- If it has heard only answers of nodes of a farm or of replicas of it, its list is one of those of
-- which `wf_execution`'s `replicas_agree` says that all are beginnings of one history.
abbrev pub IsOfFarm : {T : Type 0} (tapes : Tape T) → ReplicaState tapes → Type 0
IsOfFarm {T} tapes event_loop = (n : ℕ) (executions : ℕ → Execution T) → AreReported n executions (received_by (follower_of event_loop)) → IsListOfFarm n executions (list_of (follower_of event_loop))

-- its tape, if it has one that is durable, has the records of its list, in their order, and nothing
-- else
abbrev pub IsListOnTape : {T : Type 0} (tapes : Tape T) → ReplicaState tapes → Type 0
IsListOnTape tapes event_loop = IsRecorded tapes (follower_of event_loop).tape (list_of (follower_of event_loop))

-- each client that was answered was answered by the replica as it then was
abbrev pub HasAnsweredByList : {T : Type 0} (tapes : Tape T) → ReplicaState tapes → Type 0
HasAnsweredByList tapes event_loop = ∥ AreAnswered tapes event_loop.asked event_loop.responses ∥₁

-- from client to client it was one replica, whose list never went back
abbrev pub HasOnlyGrown : {T : Type 0} (tapes : Tape T) → ReplicaState tapes → Type 0
HasOnlyGrown tapes event_loop = ∥ AreInOrder tapes event_loop.asked (follower_of event_loop) ∥₁

-- each question of a reader was replied by its list as that was by then
abbrev pub HasRepliedByList : {T : Type 0} (tapes : Tape T) → ReplicaState tapes → Type 0
HasRepliedByList tapes event_loop = ∥ AreRepliedByBeginnings (list_of (follower_of event_loop)) event_loop.exchanges ∥₁

-- Each reply that it heard came on a connection to a source, whole, to a question that was asked
-- there; and all that it has heard is what it read of its tape, and what it took of the answers.
pub record HasBeenTold {T : Type 0} (tapes : Tape T) (event_loop : ReplicaState tapes) : Type 0 where
  pub come : ∥ AreHeardOn event_loop.conversations event_loop.heard ∥₁
  pub taken : ∥ CameByAnswers (read_by event_loop.follower) (answers_of event_loop.follower) (received_by event_loop.follower) ∥₁

-- It has heard nothing of its sources yet: none of them refuses it, and it was given no answer. Its
-- list is what it read of its tape.
pub record HasHeardNothing {T : Type 0} (tapes : Tape T) (event_loop : ReplicaState tapes) : Type 0 where
  pub heard : event_loop.heard ≡ []
  pub refusals : IsFewer [] event_loop.refusals
  pub answers : answers_of event_loop.follower ≡ []
  pub read : read_by event_loop.follower ≡ numbered 1 (list_of event_loop.follower)

-- it goes on by what it hears of its sources
pub record HasHeard {T : Type 0} (tapes : Tape T) (old new : ReplicaState tapes) : Type 0 where
  pub goes_on : IsLaterReplica old.follower new.follower
  pub heard : List (Reply × Asked)
  pub logged : new.heard ≡ old.heard ++ heard
  pub are : AreHeard (course_of old.follower old.refusals) heard (course_of new.follower new.refusals)

-- each of its sources refuses it, as it last replied
abbrev pub IsRefused : {T : Type 0} (tapes : Tape T) → ReplicaState tapes → Type 0
IsRefused tapes event_loop = all_refuse event_loop.refusals ≡ true

-- a turn after which the replica has to end: all of its sources refuse it
abbrev pub IsTurn : {T : Type 0} (tapes : Tape T) → Turn → ReplicaState tapes → Type 0
IsTurn tapes turns.On event_loop = Unit {0}
IsTurn tapes (turns.Ended why) event_loop = IsRefused tapes event_loop
