-- The theorems about sessions on one folder.
use Rattle.std.specs.Prelude.{◌≡◌, ◌≢◌, ℕ, ◌<◌, ◌≤◌, List, slice_get, Option, Some, Result, Ok, Err, Vec}
use Rattle.std.specs.declared.alloc.Global.{Global}
use Rattle.wf_execution.specs.Execution.{Execution, Item, IsFarm, values}
use Rattle.wf_codec.specs.declared.message.Message.{Message}
use Rattle.wf_def.specs.Definition.{Definition}
use Rattle.wf_edge.specs.Request.{Request}
use Rattle.wf_edge.specs.RequestEffect.{IsOutcome, Responds}
use Rattle.wf_edge.specs.declared.outcome.Outcome.{Outcome}
use Rattle.wf_edge.specs.declared.outcome.Outcome.TheVariants as outcome
use Rattle.wf_edge.specs.declared.resource.RequestedResource.TheVariants.{Wms}
use Rattle.wf_http.specs.Response.{Response, response_bytes}
use Rattle.wf_http.specs.Target.{query_of}
use Rattle.wf_http.specs.declared.fault.RequestFault.{RequestFault}
use Rattle.wf_safety.specs.Theorems.{IsBeginning}
use Rattle.wf_model.specs.DurableState.{definition_at}
use Rattle.wf_node.specs.Node.{Node}
use Rattle.wf_serve.specs.Agreement.{AskedAlike}
use Rattle.wf_serve.specs.ConnectionEffect.{IsServedAt}
use Rattle.wf_tape.specs.declared.tape.Tape.{Ghosts as Tape}
use Rattle.wf_runs.specs.Session.{NodeSession}
use Rattle.wf_runs.specs.Folder.{IsFolder, moments, WasAt, WasOnce}

-- ---- one farm of processes

-- Of two moments the node at one index was the one value and then the other: so it was in that
-- process's execution.
pub record AreSuccessive {T : Type 0} (n : ℕ) (executions : ℕ → Execution T) (node_index : ℕ) (node next : Node T) : Type 0 where
  pub is_member : node_index < n
  pub moment : ℕ
  pub later : ℕ
  pub order : moment ≤ later
  pub at : slice_get (values (executions node_index)) moment ≡ Some node
  pub then : slice_get (values (executions node_index)) later ≡ Some next

-- The sessions are a farm of n processes of `wf_execution`, one for each index: what a node was at
-- each moment, its process held, and in that order.
pub record IsOneFarm {T : Type 0} (tapes : Tape T) (n : ℕ) (sessions : List (NodeSession T)) : Type 0 where
  pub executions : ℕ → Execution T
  pub items : List Item
  pub farm : IsFarm tapes n executions items
  pub order : (moment later node_index : ℕ) (node next : Node T) → moment ≤ later → WasAt sessions moment node_index node → WasAt sessions later node_index next → AreSuccessive n executions node_index node next

abbrev pub FolderIsOneFarm : {T : Type 0} → Tape T → Type 0
FolderIsOneFarm {T} tapes = (n : ℕ) (sessions : List (NodeSession T)) → IsFolder tapes n sessions → IsOneFarm tapes n sessions

-- ---- what is published

-- There is one history, and what any node had published at any moment is a beginning of it.
pub record HasOneHistory {T : Type 0} (sessions : List (NodeSession T)) : Type 0 where
  pub history : List Definition
  pub each : (node : Node T) → WasOnce sessions node → IsBeginning node.parts.history history

-- No two nodes, at any two moments, have published different definitions under one sequence.
unfoldable pub HaveOneDefinition : {T : Type 0} → List (NodeSession T) → Type 0
HaveOneDefinition {T} sessions = (node other : Node T) → WasOnce sessions node → WasOnce sessions other → (s : ℕ) (c d : Definition) →
    definition_at node.parts.history s ≡ Some c → definition_at other.parts.history s ≡ Some d → c ≡ d

-- What the node at an index had published at one moment is a beginning of what it had published at
-- each later one: no published sequence goes back, whether in one session or across restarts.
unfoldable pub NoneGoesBack : {T : Type 0} → List (NodeSession T) → Type 0
NoneGoesBack {T} sessions = (moment later node_index : ℕ) (node next : Node T) → moment ≤ later → WasAt sessions moment node_index node → WasAt sessions later node_index next →
    IsBeginning node.parts.history next.parts.history

-- ---- what clients get

-- what was read is a request to the map service with this query
abbrev pub IsQueryTo : Result Request RequestFault → List ℕ → Type 0
IsQueryTo (Ok request) query = (request.asked ≡ Wms) × (query_of request.head.target ≡ query)
IsQueryTo (Err why) query = ⊥

module _ {T : Type 0} (tapes : Tape T) where
  -- The node responded to a request that it read, for the map service, with that query.
  pub record NodeHasResponded (node : Node T) (query : List ℕ) (response : Response) : Type 0 where
    pub input : Option (List ℕ)
    pub sent : Vec Message Global
    pub after : Node T
    pub responds : Responds tapes input node response sent after
    pub asked : IsQueryTo responds.arrived query

  -- The response was written to a connection, all of it or a first part, and it was to such a
  -- request.
  abbrev pub IsReplyToQuery : (input old new : Option (List ℕ)) (before after : Node T) (outputs : Vec Message Global) (got : Outcome) → IsOutcome tapes input old new before outputs after got → List ℕ → Response → Type 0
  IsReplyToQuery input old new before after outputs (outcome.Sent status count) sends query response = (sends.response ≡ response) × IsQueryTo sends.responds.arrived query
  IsReplyToQuery input old new before after outputs (outcome.WriteFailed status count) sends query response = (sends.response ≡ response) × IsQueryTo sends.responds.arrived query
  IsReplyToQuery input old new before after outputs outcome.ReadFailed sends query response = ⊥
  IsReplyToQuery input old new before after outputs outcome.NoRequest sends query response = ⊥

  -- The client of a connection, which the node at an index served, got that response to that query.
  pub record HasGot (nodes : List (Node T)) (query : List ℕ) (response : Response) : Type 0 where
    pub node_index : ℕ
    pub input : Option (List ℕ)
    pub old : Option (List ℕ)
    pub new : Option (List ℕ)
    pub outputs : Vec Message Global
    pub served : List (Node T)
    pub outcome : Outcome
    pub connection : IsServedAt tapes node_index input old new nodes outputs served outcome
    pub reply : IsReplyToQuery input old new connection.before connection.after outputs outcome connection.served query response

-- Two nodes, or one at two moments, respond to equal queries with equal bytes, if neither responds
-- that an allocation failed (503).
unfoldable pub RespondAlike : {T : Type 0} → Tape T → List (NodeSession T) → Type 0
RespondAlike {T} tapes sessions = (node other : Node T) (query : List ℕ) (response another : Response) → WasOnce sessions node → WasOnce sessions other →
    AskedAlike query node.parts.history other.parts.history → NodeHasResponded tapes node query response → NodeHasResponded tapes other query another →
    response.status ≢ 503 → another.status ≢ 503 → response_bytes another ≡ response_bytes response

-- So the clients of two connections, one asked before and one after, get equal bytes.
unfoldable pub GetAlike : {T : Type 0} → Tape T → List (NodeSession T) → Type 0
GetAlike {T} tapes sessions = (moment later : ℕ) (nodes others : List (Node T)) (query : List ℕ) (response another : Response) →
    slice_get (moments sessions) moment ≡ Some nodes → slice_get (moments sessions) later ≡ Some others →
    (one : HasGot tapes nodes query response) (two : HasGot tapes others query another) → AskedAlike query one.connection.before.parts.history two.connection.before.parts.history →
    response.status ≢ 503 → another.status ≢ 503 → response_bytes another ≡ response_bytes response

-- ---- all of it

-- Whatever runs of the program a folder has seen: its nodes agree, go on and answer alike across
-- them.
pub record AreOneFarm {T : Type 0} (tapes : Tape T) (sessions : List (NodeSession T)) : Type 0 where
  pub history : HasOneHistory sessions
  pub definition : HaveOneDefinition sessions
  pub grow : NoneGoesBack sessions
  pub respond : RespondAlike tapes sessions
  pub get : GetAlike tapes sessions

abbrev pub SessionsAreOneFarm : {T : Type 0} → Tape T → Type 0
SessionsAreOneFarm {T} tapes = (n : ℕ) (sessions : List (NodeSession T)) → IsFolder tapes n sessions → AreOneFarm tapes sessions
