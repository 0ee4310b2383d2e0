-- What is done to a process.
use Rattle.std.specs.Prelude.{◌≡◌, ℕ, ◌+◌, Bool, not, ◌&&◌, ◌==◌, nat_lt, ⊤, List, [], ◌∷◌, ◌++◌, length, map, slice_get, slice_set, Option, Some, None, Result, Ok, Err, Vec}
use Rattle.std.specs.declared.alloc.Global.{Global}
use Rattle.wf_codec.specs.Message.{view}
use Rattle.wf_codec.specs.declared.message.Message.{Message}
use Rattle.wf_execution.specs.Run.{Input, given_to}
use Rattle.wf_edge.specs.StepResult.{IsStepResult}
use Rattle.wf_edge.specs.RequestEffect.{IsEnding, IsOutcome, MovesOnce}
use Rattle.wf_edge.specs.declared.outcome.Outcome.{Outcome}
use Rattle.wf_delivery.specs.Reachability.{outputs_by}
use Rattle.wf_model.specs.declared.action.Action.TheVariants as action
use Rattle.wf_node.specs.Input as node
use Rattle.wf_node.specs.declared.fault.NodeFault.{NodeFault}
use Rattle.wf_stream.specs.declared.stream.Sink.{Ghosts as Sink}
use Rattle.wf_stream.specs.declared.stream.Source.{Ghosts as Source}
use Rattle.wf_tape.specs.declared.tape.Tape.{Ghosts as Tape}
use Rattle.wf_actor.specs.Life.{all_from}
use Rattle.wf_wire.specs.Post.{logged}
use Rattle.wf_actor.specs.Backlog.{queued}
use Rattle.wf_wire.specs.Target.{includes, reply_target}
use Rattle.wf_actor.specs.Sent.{AreQueued}
use Rattle.wf_actor.specs.declared.actor.Origin.{Origin}
use Rattle.wf_actor.specs.declared.actor.Origin.TheVariants.{Own}
use Rattle.wf_actor.specs.declared.process.Process.{Process}
use Rattle.wf_wire.specs.declared.post.Post.{Post}
use Rattle.wf_wire.specs.declared.target.Target.{Target}
use Rattle.wf_wire.specs.declared.target.Target.TheVariants.{Everyone}

-- all messages that its node returned in this run
abbrev pub emitted_by : {T : Type 0} {tapes : Tape T} → Process T tapes → List Message
emitted_by process = logged process.actor.emitted.items

-- the posts that wait to be given to those that they are for
abbrev pub posts_in : {T : Type 0} {tapes : Tape T} → Process T tapes → List Post
posts_in process = process.posts.messages.items

-- its own messages that wait
abbrev pub waiting_in : {T : Type 0} {tapes : Tape T} → Process T tapes → List Message
waiting_in process = process.backlog.messages.items

-- Its node was just opened: nothing was given to it or returned by it, and nothing waits.
pub record IsJustOpened {T : Type 0} {tapes : Tape T} (process : Process T tapes) : Type 0 where
  pub stood : process.actor.stood.items ≡ (process.actor.node, 0) ∷ []
  pub given : process.actor.given.items ≡ []
  pub emitted : emitted_by process ≡ []
  pub waiting : waiting_in process ≡ []
  pub posts : posts_in process ≡ []

-- ---- an act

-- The messages wait to be given to those that they are for.
pub record AreGone {T : Type 0} {tapes : Tape T} (outputs : List Message) (target : Target) (before after : Process T tapes) : Type 0 where
  pub queue : waiting_in after ≡ waiting_in before
  pub posted : AreQueued outputs target (emitted_by after) (posts_in before) (posts_in after)

-- the same error, or none
abbrev pub HaveOneEnd : {A B : Type 0} → Result A NodeFault → Result B NodeFault → Type 0
HaveOneEnd (Ok x) (Ok y) = ⊤
HaveOneEnd (Ok x) (Err why) = ⊥
HaveOneEnd (Err why) (Ok y) = ⊥
HaveOneEnd (Err why) (Err other) = other ≡ why

-- The node as it is now is one more in the log of what it was in its run. How that began, the log
-- of ended runs, and how many nodes there are, stay.
pub record IsGoingOn {T : Type 0} {tapes : Tape T} (before after : Process T tapes) : Type 0 where
  pub read_from : after.actor.read_from.items ≡ before.actor.read_from.items
  pub stood : after.actor.stood.items ≡ before.actor.stood.items ++ (after.actor.node, 0) ∷ []
  pub ended : after.ended.items ≡ before.ended.items
  pub number : after.actor.node.id ≡ before.actor.node.id
  pub among : after.n ≡ before.n

-- The node, its logs and its number stay, and so does the log of the runs that ended.
pub record IsSameActor {T : Type 0} {tapes : Tape T} (before after : Process T tapes) : Type 0 where
  pub actor : after.actor ≡ before.actor
  pub ended : after.ended.items ≡ before.ended.items
  pub among : after.n ≡ before.n

-- ---- what waits

-- The first of the messages that waited for the node itself was taken out.
pub record IsOwnPopped {T : Type 0} {tapes : Tape T} (m : Message) (before after : Process T tapes) : Type 0 where
  pub first : waiting_in before ≡ m ∷ waiting_in after
  pub posts : posts_in after ≡ posts_in before
  pub rest : IsSameActor before after

-- A post was given to whom it is for, and waits no more: its messages wait for the node itself now,
-- as far as there is room, if they are for it.
pub record IsPostGiven {T : Type 0} {tapes : Tape T} (post : Post) (rest : List Post) (before after : Process T tapes) : Type 0 where
  pub left : posts_in after ≡ rest
  pub queue : waiting_in after ≡ queued (includes post.target before.actor.node.id) (waiting_in before) post.messages.items
  pub still : IsSameActor before after

-- no post waits, and nothing else does any less
pub record IsNoneGiven {T : Type 0} {tapes : Tape T} (before after : Process T tapes) : Type 0 where
  pub left : posts_in after ≡ []
  pub queue : waiting_in after ≡ waiting_in before
  pub still : IsSameActor before after

-- so was the first of these, if there is one
abbrev pub IsFirstGiven : {T : Type 0} {tapes : Tape T} → List Post → Process T tapes → Process T tapes → Type 0
IsFirstGiven [] before after = IsNoneGiven before after
IsFirstGiven (post ∷ rest) before after = IsPostGiven post rest before after

module _ {T : Type 0} (tapes : Tape T) where
  -- The node was given the input, which comes from there, and its messages wait in a post to the
  -- target.
  pub record IsActed {U : Type 0} (input : Input) (origin : Origin) (target : Target) (before : Process T tapes) (result : Result U NodeFault) (after : Process T tapes) : Type 0 where
    pub answer : Result (Vec Message Global) NodeFault
    pub steps : IsStepResult tapes (node.view input) before.actor.node answer after.actor.node
    pub result_is : HaveOneEnd answer result
    pub emitted : emitted_by after ≡ emitted_by before ++ outputs_by answer
    pub given : after.actor.given.items ≡ before.actor.given.items ++ all_from origin (given_to input)
    pub gone : AreGone (outputs_by answer) target before after
    pub goes_on : IsGoingOn before after

  -- The message is delivered to the node, and the answer is for whom it answers.
  abbrev pub IsReceived : {U : Type 0} → Message → Origin → ℕ → Process T tapes → Result U NodeFault → Process T tapes → Type 0
  IsReceived m origin from before result after = IsActed (action.Deliver m) origin (reply_target m from) before result after

  -- The first of the messages that waited was delivered; or none waited.
  abbrev pub ReceivesOwn : {U : Type 0} → Process T tapes → Option (Result U NodeFault) → Process T tapes → Type 0
  ReceivesOwn before None after = (waiting_in before ≡ []) × (after ≡ before)
  ReceivesOwn before (Some result) after = (m : Message) × (middle : Process T tapes) × IsOwnPopped m before middle × IsReceived m Own before.actor.node.id middle result after

  -- ---- a client's request

  module _ {S K : Type 0} (sources : Source S) (sinks : Sink K) where
    -- One request was served as `wf_edge` serves it, with the node's answer, and the messages that
    -- the node returned by it, whether or not the response was written, wait for every node.
    pub record IsServedBy (source source_after : S) (sink sink_after : K) (before : Process T tapes) (outcome : Outcome) (after : Process T tapes) : Type 0 where
      pub outputs : Vec Message Global
      pub outcome_is : IsOutcome tapes (sources.left source) (sinks.written sink) (sinks.written sink_after) before.actor.node outputs after.actor.node outcome
      pub moves : MovesOnce tapes before.actor.node outputs after.actor.node
      pub ends : IsEnding tapes sinks (sources.left source) sink sink_after before.actor.node outputs after.actor.node outcome
      pub emitted : emitted_by after ≡ emitted_by before ++ outputs.items
      pub given : after.actor.given.items ≡ before.actor.given.items
      pub gone : AreGone outputs.items Everyone before after
      pub goes_on : IsGoingOn before after
