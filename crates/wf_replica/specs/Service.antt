-- What a replica responds to a request: from its published maps, as a node does, but for its
-- status; and it publishes nothing.
use Rattle.std.specs.Prelude.{◌≡◌, ℕ, List, ◌++◌, codes, decimal, length, Some, Result, Ok, Err}
use Rattle.wf_client.specs.ResponseBuffer.{Outgoing}
use Rattle.wf_def.specs.Definition.{Definition}
use Rattle.wf_edge.specs.ErrorResponse.{response_of}
use Rattle.wf_edge.specs.Page.{IsServiceGiven, line_page}
use Rattle.wf_edge.specs.Request.{BeginsWith, IsRequestFault, Request}
use Rattle.wf_edge.specs.Route.{resolved}
use Rattle.wf_edge.specs.Completion.{IsErrorCompleted, IsCompleted}
use Rattle.wf_edge.specs.declared.error_response.ErrorResponse.{ErrorResponse}
use Rattle.wf_edge.specs.declared.error_response.ErrorResponse.TheVariants as error_response
use Rattle.wf_edge.specs.declared.outcome.Outcome.{Outcome}
use Rattle.wf_edge.specs.declared.outcome.Outcome.TheVariants as outcome
use Rattle.wf_edge.specs.declared.resource.RequestedResource.{RequestedResource}
use Rattle.wf_edge.specs.declared.resource.RequestedResource.TheVariants as asked
use Rattle.wf_http.specs.Head.{Begins, Head}
use Rattle.wf_http.specs.Response.{Response}
use Rattle.wf_http.specs.Target.{query_of}
use Rattle.wf_http.specs.declared.fault.RequestFault.{RequestFault}
use Rattle.wf_http.specs.declared.http_error.HttpError.TheVariants as http_error

-- GET /status: one line
abbrev pub status_words : ℕ → List ℕ
status_words published = codes "replica published " ++ decimal published

abbrev pub status_page : ℕ → Response
status_page published = line_page 200 (status_words published)

-- POST /publish, as any path that isn't there
abbrev pub publish_answer : Result Response ErrorResponse
publish_answer = Err (error_response.Rejected http_error.NotFound)

-- the answer to a request, by what it asks for and its query
abbrev pub ReplicaAnswers : RequestedResource → List ℕ → List Definition → Result Response ErrorResponse → Type 0
ReplicaAnswers asked.Wms query history answer = IsServiceGiven history query answer
ReplicaAnswers asked.Status query history answer = answer ≡ Ok (status_page (length history))
ReplicaAnswers (asked.Publish bytes) query history answer = answer ≡ publish_answer

-- the answer to a request was written, or a beginning of it where memory failed
pub record IsAnswered (request : Request) (history : List Definition) (old new : List ℕ) (completion : Outcome) : Type 0 where
  pub answer : Result Response ErrorResponse
  pub answers : ReplicaAnswers request.asked (query_of request.head.target) history answer
  pub sends : IsCompleted (response_of answer) (Some old) (Some new) completion

-- the head of the input asks for a publish
pub record AsksToPublish (input : List ℕ) : Type 0 where
  pub head : Head
  pub rest : List ℕ
  pub begins : Begins input head rest
  pub bytes : ℕ
  pub asks : resolved head ≡ Ok (asked.Publish bytes)

-- What is written for an input: the answer to the request that it begins with; of a publish that it
-- isn't there, once its head has come; or the rejection of what isn't a request.
pub data IsInputServed (input : List ℕ) (history : List Definition) (old new : List ℕ) (completion : Outcome) : Type 0 where
  OfRequest : (request : Request) → BeginsWith input request → IsAnswered request history old new completion → IsInputServed input history old new completion
  OfPublish : AsksToPublish input → IsCompleted (response_of publish_answer) (Some old) (Some new) completion → IsInputServed input history old new completion
  OfFault : (fault : RequestFault) → IsRequestFault input fault → IsErrorCompleted fault (Some old) (Some new) completion → IsInputServed input history old new completion

-- unless a response was written, nothing was
abbrev pub IsUnsent : Outcome → Outgoing → Outgoing → Type 0
IsUnsent (outcome.Sent status count) old new = Unit {0}
IsUnsent (outcome.WriteFailed status count) old new = Unit {0}
IsUnsent outcome.ReadFailed old new = new ≡ old
IsUnsent outcome.NoRequest old new = new ≡ old
