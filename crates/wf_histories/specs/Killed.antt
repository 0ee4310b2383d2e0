-- By which values of its node a process that was killed had answered clients.
use Rattle.std.specs.Prelude.{◌≡◌, ◌≢◌, ℕ, ◌<◌, ◌≤◌, List, length, slice_get, Some}
use Rattle.wf_actor.specs.Farm.{Step}
use Rattle.wf_actor.specs.Responses.{AskedAlike}
use Rattle.wf_actor.specs.declared.process.Process.{Process}
use Rattle.wf_execution.specs.Execution.{Execution, IsFarm, Item}
use Rattle.wf_execution.specs.Theorems.{outputs_in}
use Rattle.wf_edge.specs.Theorem.{AsksMapService}
use Rattle.wf_edge.specs.declared.outcome.Outcome.TheVariants.{Sent}
use Rattle.wf_mail.specs.Mail.{IsFirstPart}
use Rattle.wf_model.specs.Chosen.{IsIn}
use Rattle.wf_tape.specs.declared.tape.Tape.{Ghosts as Tape}
use Rattle.wf_voter.specs.Answer.{IsProcessAnswer}
use Rattle.wf_voter.specs.Continuation.{IsEarlier}
use Rattle.wf_voter.specs.declared.voter.Voter.{Voter}
use Rattle.wf_histories.specs.Answers.{HasMadeAll}
use Rattle.wf_histories.specs.Nodes.{AreNodeProcesses, NodeProcess, made_by}
use Rattle.wf_histories.specs.Runs.{LifeOf}
use Rattle.wf_histories.specs.Theorems.{IsEver}

module _ {T : Type 0} (tapes : Tape T) where
  -- The process as it was at a moment: the run that it was in then was over when it was killed; or
  -- it was killed in that run, and by that moment it had lived by the first of the acts that it
  -- made.
  pub data IsWithinActs (p : NodeProcess tapes) (past : Process T tapes) : Type 0 where
    InRunOver : length past.ended.items < length (made_by tapes p).over → IsWithinActs p past
    InLastRun : length past.ended.items ≡ length (made_by tapes p).over → (life : LifeOf tapes past.actor) → IsFirstPart life.run.acts (made_by tapes p).last.run.acts → IsWithinActs p past

  -- The node that had answered a client by such a moment, of such a process of the farm, is one
  -- that was ever.
  abbrev pub AnswersByThenAreOfNodes : Type 0
  AnswersByThenAreOfNodes = (n : ℕ) (before : ℕ → Execution T) (folders : ℕ → List (NodeProcess tapes)) (i : ℕ) (p : NodeProcess tapes) (past : Process T tapes) → i < n → IsIn p (folders i) →
      IsEarlier tapes past p.has.on.voter.process → IsWithinActs p past →
      (place count : ℕ) (voter : Voter T tapes) → slice_get p.has.on.befores place ≡ Some (voter, count) → IsEarlier tapes voter.process past →
      ∥ IsEver tapes n before folders voter.process.actor.node ∥₁

  -- So if one client was answered at such a moment, that holds of it, and of each client that was
  -- answered before it.
  abbrev pub EarlierAnswersAreOfNodes : Type 0
  EarlierAnswersAreOfNodes = (n : ℕ) (before : ℕ → Execution T) (folders : ℕ → List (NodeProcess tapes)) (i : ℕ) (p : NodeProcess tapes) → i < n → IsIn p (folders i) →
      (last last_count : ℕ) (later : Voter T tapes) → slice_get p.has.on.befores last ≡ Some (later, last_count) → IsWithinActs p later.process →
      (place count : ℕ) (voter : Voter T tapes) → place ≤ last → slice_get p.has.on.befores place ≡ Some (voter, count) →
      ∥ IsEver tapes n before folders voter.process.actor.node ∥₁

  -- A process that made all its acts is at such a moment itself: so all its clients are such.
  abbrev pub WholeIsWithinActs : Type 0
  WholeIsWithinActs = (p : NodeProcess tapes) → HasMadeAll tapes p → IsWithinActs p p.has.on.voter.process

  -- A client of a process of the farm, which was answered by such a moment, was sent this whole
  -- response to what had come of its request. No allocation failed (503).
  pub record WasAnsweredByThen (n : ℕ) (folders : ℕ → List (NodeProcess tapes)) (came response : List ℕ) : Type 0 where
    pub number : ℕ
    pub member : number < n
    pub process : NodeProcess tapes
    pub is_in : IsIn process (folders number)
    pub place : ℕ
    pub count : ℕ
    pub voter : Voter T tapes
    pub at : slice_get process.has.on.befores place ≡ Some (voter, count)
    pub within : IsWithinActs process voter.process
    pub after : Process T tapes
    pub status : ℕ
    pub written : ℕ
    pub answer : IsProcessAnswer tapes voter.process came response (Sent status written) after
    pub answers : status ≢ 503

  -- So two clients, of whichever processes of a farm, killed or not, that ask the map service the
  -- same, of nodes that have published equally many maps or for one map, get equal bytes: no
  -- premise says of them by which values they were answered.
  abbrev pub ClientsGetEqually : Type 0
  ClientsGetEqually = (n : ℕ) (before : ℕ → Execution T) (earlier : List Item) (folders : ℕ → List (NodeProcess tapes)) (steps : List Step) → IsFarm tapes n before earlier →
      AreNodeProcesses tapes n before (outputs_in earlier) folders steps →
      (came query response another : List ℕ) (one : WasAnsweredByThen n folders came response) (two : WasAnsweredByThen n folders came another) →
      AsksMapService came query → AskedAlike query one.voter.process.actor.node.parts.history two.voter.process.actor.node.parts.history → another ≡ response
