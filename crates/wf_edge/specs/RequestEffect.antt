-- The effect of one request: its response, the node's step, and what is written.
use Rattle.std.specs.Prelude.{◌≡◌, ℕ, List, [], length, Option, Result, Ok, Err, IfSome, Vec}
use Rattle.std.specs.Io.KnownBytes.{Appends, Keeps}
use Rattle.wf_codec.specs.declared.message.Message.{Message}
use Rattle.wf_def.specs.Definition.{Definition}
use Rattle.wf_node.specs.Node.{Node}
use Rattle.wf_node.specs.declared.fault.NodeFault.{NodeFault}
use Rattle.wf_edge.specs.ResponseEnd.{Completes}
use Rattle.wf_http.specs.WriteEnd.{BreaksOff}
use Rattle.wf_edge.specs.Request.{Request, BeginsWith, IsRequestFault}
use Rattle.wf_http.specs.Response.{Response, response_bytes, IsCount, WritesPart}
use Rattle.wf_http.specs.Target.{query_of}
use Rattle.wf_edge.specs.Receipt.{CountsReceiving}
use Rattle.wf_edge.specs.ErrorResponse.{response_of}
use Rattle.wf_edge.specs.Page.{status_at, status_page, IsServiceGiven}
use Rattle.wf_edge.specs.Publish.{IsProposed, IsPublished, ReportsFault}
use Rattle.wf_edge.specs.Completion.{CountsCompleting}
use Rattle.wf_http.specs.declared.fault.RequestFault.{RequestFault}
use Rattle.wf_http.specs.declared.fault.RequestFault.TheVariants as fault
use Rattle.wf_edge.specs.declared.error_response.ErrorResponse.{ErrorResponse}
use Rattle.wf_edge.specs.declared.error_response.ErrorResponse.TheVariants as error_response
use Rattle.wf_edge.specs.declared.publish_fault.PublishFault.{PublishFault}
use Rattle.wf_edge.specs.declared.resource.RequestedResource.{RequestedResource}
use Rattle.wf_edge.specs.declared.resource.RequestedResource.TheVariants as asked
use Rattle.wf_edge.specs.declared.outcome.Outcome.{Outcome}
use Rattle.wf_edge.specs.declared.outcome.Outcome.TheVariants as outcome
use Rattle.wf_edge.specs.declared.status.Status.{Status}
use Rattle.wf_stream.specs.declared.stream.Sink.{Ghosts as Sink}
use Rattle.wf_stream.specs.declared.stream.Source.{Ghosts as Source}
use Rattle.wf_tape.specs.declared.tape.Tape.{Ghosts as Tape}

-- ---- what the input asks for

-- the input begins with that request, or there is none for that reason
abbrev pub HasRequest : List ℕ → Result Request RequestFault → Type 0
HasRequest input (Ok request) = BeginsWith input request
HasRequest input (Err why) = IsRequestFault input why

-- the request only reads: it isn't a publish
abbrev pub IsReading : RequestedResource → Type 0
IsReading asked.Wms = Unit {0}
IsReading asked.Status = Unit {0}
IsReading (asked.Publish bytes) = ⊥

-- the request is a publish
abbrev pub IsPublish : RequestedResource → Type 0
IsPublish asked.Wms = ⊥
IsPublish asked.Status = ⊥
IsPublish (asked.Publish bytes) = Unit {0}

-- ---- the reply

-- the answer to a request that only reads, by what it asks for and its query, from a list of
-- published maps and a status
abbrev pub AnswersRequest : RequestedResource → List ℕ → List Definition → Status → Result Response ErrorResponse → Type 0
AnswersRequest asked.Wms query history status answer = IsServiceGiven history query answer
AnswersRequest asked.Status query history status answer = answer ≡ Ok (status_page status)
AnswersRequest (asked.Publish bytes) query history status answer = ⊥

-- the node is unchanged, and sends nothing
pub record IsUnmoved {T A : Type 0} (before : Node T) (sent : Vec Message A) (after : Node T) : Type 0 where
  pub same : after ≡ before
  pub quiet : sent.items ≡ []

-- the reply to a publish: a page and the step's messages, or an error and none
abbrev pub ReportsPublish : {A : Type 0} → Result (Response × Vec Message A) PublishFault → Result Response ErrorResponse → Vec Message A → Type 0
ReportsPublish (Ok done) answer sent = (answer ≡ Ok done.0) × (sent ≡ done.1)
ReportsPublish (Err why) answer sent = ReportsFault why answer × (sent.items ≡ [])

-- the messages are exactly those of a step; none if it was rejected or failed
abbrev pub HandsOut : {A : Type 0} → Result (Vec Message A) NodeFault → Vec Message A → Type 0
HandsOut (Ok messages) sent = sent ≡ messages
HandsOut (Err why) sent = sent.items ≡ []

-- A request that only reads was answered from a list of published maps and a status, and its
-- response written.
pub record IsReadAnswered {K : Type 0} (sinks : Sink K) (request : Request) (history : List Definition) (status : Status) (old new : K) (completion : Outcome) : Type 0 where
  pub answer : Result Response ErrorResponse
  pub answers : AnswersRequest request.asked (query_of request.head.target) history status answer
  pub completes : Completes sinks (response_of answer) old new completion

module _ {T A : Type 0} (tapes : Tape T) where
  -- the reply to a publish of a body: its messages are the step's, whatever the answer
  pub record GivesPublish (body : List ℕ) (before : Node T) (answer : Result Response ErrorResponse) (sent : Vec Message A) (after : Node T) : Type 0 where
    pub done : Result (Response × Vec Message A) PublishFault
    pub published : IsPublished tapes body before done after
    pub reports : ReportsPublish done answer sent

  -- The reply to a request, by what it asks for. Only a publish changes the node.
  abbrev pub GivesTo : RequestedResource → Request → Node T → Result Response ErrorResponse → Vec Message A → Node T → Type 0
  GivesTo asked.Wms request before answer sent after =
      IsServiceGiven before.parts.history (query_of request.head.target) answer × IsUnmoved before sent after
  GivesTo asked.Status request before answer sent after = (answer ≡ Ok (status_page (status_at before))) × IsUnmoved before sent after
  GivesTo (asked.Publish bytes) request before answer sent after = GivesPublish request.body before answer sent after

  -- the reply to what was read: a rejection and allocation failure are reported, and leave the node
  -- unchanged
  abbrev pub GivesReply : Result Request RequestFault → Node T → Result Response ErrorResponse → Vec Message A → Node T → Type 0
  GivesReply (Ok request) before answer sent after = GivesTo request.asked request before answer sent after
  GivesReply (Err (fault.Rejected r)) before answer sent after = (answer ≡ Err (error_response.Rejected r)) × IsUnmoved before sent after
  GivesReply (Err fault.Memory) before answer sent after = (answer ≡ Err error_response.Unavailable) × IsUnmoved before sent after
  GivesReply (Err fault.NoRequest) before answer sent after = ⊥
  GivesReply (Err fault.ReadFailed) before answer sent after = ⊥

  -- A response to the input, with its effect on the node and the messages that the node sends.
  pub record Responds (input : Option (List ℕ)) (before : Node T) (response : Response) (sent : Vec Message A) (after : Node T) : Type 0 where
    pub arrived : Result Request RequestFault
    pub asks : IfSome input (λ bytes. HasRequest bytes arrived)
    pub answer : Result Response ErrorResponse
    pub gives : GivesReply arrived before answer sent after
    pub is : response ≡ response_of answer

  -- ---- what one request may do to a node, whether or not the input is known

  -- nothing; or one step Propose, with exactly its messages
  pub data MovesOnce (before : Node T) (sent : Vec Message A) (after : Node T) : Type 0 where
    Stays : IsUnmoved before sent after → MovesOnce before sent after
    Proposes : (d : Definition) (result : Result (Vec Message A) NodeFault) → IsProposed tapes before d result after
        → HandsOut result sent → MovesOnce before sent after

  -- ---- the outcome

  -- a response was written completely, with this status and this many bytes
  pub record SendsAll (input old new : Option (List ℕ)) (before : Node T) (sent : Vec Message A) (after : Node T) (status count : ℕ) : Type 0 where
    pub response : Response
    pub responds : Responds input before response sent after
    pub written : Appends old new (response_bytes response)
    pub status_is : status ≡ response.status
    pub count_is : IsCount (length (response_bytes response)) count

  -- this many first bytes of a response were written, and then the writer failed
  pub record SendsPart (input old new : Option (List ℕ)) (before : Node T) (sent : Vec Message A) (after : Node T) (status count : ℕ) : Type 0 where
    pub response : Response
    pub responds : Responds input before response sent after
    pub written : WritesPart (response_bytes response) old new count
    pub status_is : status ≡ response.status

  -- The outcome of one request. There is no request only if the input is empty; then, and if the
  -- reader failed, nothing is written.
  abbrev pub IsOutcome : Option (List ℕ) → Option (List ℕ) → Option (List ℕ) → Node T → Vec Message A → Node T → Outcome → Type 0
  IsOutcome input old new before sent after (outcome.Sent status count) = SendsAll input old new before sent after status count
  IsOutcome input old new before sent after (outcome.WriteFailed status count) = SendsPart input old new before sent after status count
  IsOutcome input old new before sent after outcome.ReadFailed = IsUnmoved before sent after × Keeps old new
  IsOutcome input old new before sent after outcome.NoRequest = IfSome input (λ bytes. bytes ≡ []) × IsUnmoved before sent after × Keeps old new

  -- ---- how the writing ended, of any writer

  module _ {K : Type 0} (sinks : Sink K) where
    -- a request was answered by a node, and its response written
    pub record IsServed (request : Request) (old new : K) (before : Node T) (sent : Vec Message A) (after : Node T) (completion : Outcome) : Type 0 where
      pub answer : Result Response ErrorResponse
      pub gives : GivesTo request.asked request before answer sent after
      pub completes : Completes sinks (response_of answer) old new completion

    -- this many first bytes of a response were written without a failure; then a call failed, and
    -- no call came after it
    pub record StopsAtFailure (input : Option (List ℕ)) (old new : K) (before : Node T) (sent : Vec Message A) (after : Node T) (status count : ℕ) : Type 0 where
      pub response : Response
      pub responds : Responds input before response sent after
      pub breaks : BreaksOff sinks (response_bytes response) old new count
      pub status_is : status ≡ response.status

    -- A failed write is the last call. Where the input is empty or the reader failed, the writer
    -- isn't called.
    abbrev pub IsEnding : Option (List ℕ) → K → K → Node T → Vec Message A → Node T → Outcome → Type 0
    IsEnding input old new before sent after (outcome.Sent status count) = Unit {0}
    IsEnding input old new before sent after (outcome.WriteFailed status count) = StopsAtFailure input old new before sent after status count
    IsEnding input old new before sent after outcome.ReadFailed = new ≡ old
    IsEnding input old new before sent after outcome.NoRequest = new ≡ old

    -- One request was served: what was written and what the node did, also where the input isn't
    -- known, and how the reading and the writing ended.
    pub record Serves {S : Type 0} (sources : Source S) (source source_after : S) (sink sink_after : K) (before : Node T) (sent : Vec Message A) (after : Node T) (completion : Outcome) : Type 0 where
      pub outcome : IsOutcome (sources.left source) (sinks.written sink) (sinks.written sink_after) before sent after completion
      pub moves : MovesOnce before sent after
      pub reads : CountsReceiving completion (sources.failures source) (sources.failures source_after)
      pub writes : CountsCompleting completion (sinks.failures sink) (sinks.failures sink_after)
      pub last : IsEnding (sources.left source) sink sink_after before sent after completion
