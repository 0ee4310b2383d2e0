-- The theorems about the processes of a farm's nodes.
use Rattle.std.specs.Prelude.{◌≡◌, ◌≢◌, ℕ, ◌<◌, ◌≤◌, List, ◌++◌, slice_get, Some, Vec}
use Rattle.std.specs.declared.alloc.Global.{Global}
use Rattle.wf_actor.specs.Farm.{Step, items}
use Rattle.wf_actor.specs.Responses.{AskedAlike}
use Rattle.wf_actor.specs.declared.process.Process.{Process}
use Rattle.wf_execution.specs.Execution.{Execution, IsFarm, Item, values}
use Rattle.wf_execution.specs.Theorems.{outputs_in}
use Rattle.wf_codec.specs.declared.message.Message.{Message}
use Rattle.wf_def.specs.Definition.{Definition}
use Rattle.wf_edge.specs.RequestEffect.{Responds}
use Rattle.wf_edge.specs.Theorem.{AsksMapService}
use Rattle.wf_edge.specs.declared.outcome.Outcome.TheVariants.{Sent}
use Rattle.wf_http.specs.Response.{Response, response_bytes}
use Rattle.wf_voter.specs.Answer.{IsProcessAnswer}
use Rattle.wf_model.specs.DurableState.{definition_at}
use Rattle.wf_node.specs.Node.{Node}
use Rattle.wf_safety.specs.Theorems.{IsBeginning}
use Rattle.wf_tape.specs.declared.tape.Tape.{Ghosts as Tape}
use Rattle.wf_histories.specs.Nodes.{AreNodeProcesses, NodeProcess, values_ever}
use Rattle.wf_histories.specs.Runs.{ComesOf, LivesOf}

module _ {T : Type 0} (tapes : Tape T) where
  -- acts can be told of each run of a process
  abbrev pub ProcessesShowLives : Type 0
  ProcessesShowLives = (process : Process T tapes) → ∥ LivesOf tapes process.ended.items process.actor ∥₁

  -- what was given in each of its runs from peers came on their connections
  abbrev pub ProcessesShowWhatCame : Type 0
  ProcessesShowWhatCame = (process : Process T tapes) → ∥ ComesOf tapes process.ended.items process.actor ∥₁

  -- ---- one farm of processes

  -- With what was before they are a farm of `wf_execution`, whose processes held exactly the values
  -- that the nodes had.
  pub record AreFarm (n : ℕ) (before : ℕ → Execution T) (earlier : List Item) (folders : ℕ → List (NodeProcess tapes)) (steps : List Step) : Type 0 where
    pub executions : ℕ → Execution T
    pub farm : IsFarm tapes n executions (earlier ++ items steps)
    pub held : (i : ℕ) → i < n → values (executions i) ≡ values_ever tapes before folders i

  abbrev pub NodesAreOneFarm : Type 0
  NodesAreOneFarm = (n : ℕ) (before : ℕ → Execution T) (earlier : List Item) (folders : ℕ → List (NodeProcess tapes)) (steps : List Step) → IsFarm tapes n before earlier →
      AreNodeProcesses tapes n before (outputs_in earlier) folders steps → AreFarm n before earlier folders steps

  -- ---- what is published

  -- At a moment, of which the first is 0, node i was this.
  pub record IsThen (n : ℕ) (before : ℕ → Execution T) (folders : ℕ → List (NodeProcess tapes)) (i moment : ℕ) (node : Node T) : Type 0 where
    pub member : i < n
    pub at : slice_get (values_ever tapes before folders i) moment ≡ Some node

  -- one of the nodes was this at some moment
  pub record IsEver (n : ℕ) (before : ℕ → Execution T) (folders : ℕ → List (NodeProcess tapes)) (node : Node T) : Type 0 where
    pub number : ℕ
    pub moment : ℕ
    pub is : IsThen n before folders number moment node

  -- There is one history, and what any node had published at any moment is a beginning of it.
  pub record ShareHistory (n : ℕ) (before : ℕ → Execution T) (folders : ℕ → List (NodeProcess tapes)) : Type 0 where
    pub history : List Definition
    pub each : (node : Node T) → IsEver n before folders node → IsBeginning node.parts.history history

  -- No two nodes, at any two moments, have published different definitions under one sequence.
  unfoldable pub NeverDiffer : ℕ → (ℕ → Execution T) → (ℕ → List (NodeProcess tapes)) → Type 0
  NeverDiffer n before folders = (node other : Node T) → IsEver n before folders node → IsEver n before folders other → (s : ℕ) (c d : Definition) →
      definition_at node.parts.history s ≡ Some c → definition_at other.parts.history s ≡ Some d → c ≡ d

  -- What a node had published at one moment is a beginning of what it had published at each later
  -- one, across restarts too.
  unfoldable pub NeverGoBack : ℕ → (ℕ → Execution T) → (ℕ → List (NodeProcess tapes)) → Type 0
  NeverGoBack n before folders = (i moment later : ℕ) (node next : Node T) → moment ≤ later → IsThen n before folders i moment node → IsThen n before folders i later next →
      IsBeginning node.parts.history next.parts.history

  -- Two nodes, or one at two moments, that receive equal requests to the map service respond with
  -- equal bytes, where they have published equally many maps or are asked for one map; but one for
  -- which an allocation failed responds with 503.
  unfoldable pub RespondEqually : ℕ → (ℕ → Execution T) → (ℕ → List (NodeProcess tapes)) → Type 0
  RespondEqually n before folders = (node other : Node T) → IsEver n before folders node → IsEver n before folders other →
      (input query : List ℕ) (after other_after : Node T) (sent other_sent : Vec Message Global) (response another : Response) →
      AsksMapService input query → AskedAlike query node.parts.history other.parts.history →
      Responds tapes (Some input) node response sent after → response.status ≢ 503 →
      Responds tapes (Some input) other another other_sent other_after → another.status ≢ 503 →
      response_bytes another ≡ response_bytes response

  -- A client was sent this whole response to what had come of its request, by a process whose node
  -- was one that was ever: `HasAnswered` of `wf_loop` tells so of each client. No allocation failed
  -- (503).
  pub record WasSent (n : ℕ) (before : ℕ → Execution T) (folders : ℕ → List (NodeProcess tapes)) (came response : List ℕ) : Type 0 where
    pub process : Process T tapes
    pub after : Process T tapes
    pub status : ℕ
    pub count : ℕ
    pub answer : IsProcessAnswer tapes process came response (Sent status count) after
    pub answers : status ≢ 503
    pub ever : IsEver n before folders process.actor.node

  -- So two clients that ask the map service the same, of nodes that have published equally many
  -- maps or for one map, get equal bytes.
  unfoldable pub GetEqually : ℕ → (ℕ → Execution T) → (ℕ → List (NodeProcess tapes)) → Type 0
  GetEqually n before folders = (came query response another : List ℕ) (one : WasSent n before folders came response) (two : WasSent n before folders came another) →
      AsksMapService came query → AskedAlike query one.process.actor.node.parts.history two.process.actor.node.parts.history → another ≡ response

  -- all of it
  pub record AreInAgreement (n : ℕ) (before : ℕ → Execution T) (folders : ℕ → List (NodeProcess tapes)) : Type 0 where
    pub history : ShareHistory n before folders
    pub definition : NeverDiffer n before folders
    pub grow : NeverGoBack n before folders
    pub respond : RespondEqually n before folders
    pub get : GetEqually n before folders

  abbrev pub NodesAgree : Type 0
  NodesAgree = (n : ℕ) (before : ℕ → Execution T) (earlier : List Item) (folders : ℕ → List (NodeProcess tapes)) (steps : List Step) → IsFarm tapes n before earlier →
      AreNodeProcesses tapes n before (outputs_in earlier) folders steps → AreInAgreement n before folders
