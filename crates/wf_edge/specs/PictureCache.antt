-- What becomes of the cached pictures when a request is answered.
use Rattle.std.proofs.Common.{◌≡◌, ◌⊎◌, inl, inr, ℕ, List}
use Rattle.std.specs.Prelude.{Result, Ok, Err}
use Rattle.wf_def.specs.Definition.{Definition}
use Rattle.wf_edge.specs.ResponseEnd.{Completes}
use Rattle.wf_edge.specs.ErrorResponse.{response_of}
use Rattle.wf_edge.specs.Request.{Request}
use Rattle.wf_edge.specs.RequestEffect.{AnswersRequest}
use Rattle.wf_edge.specs.declared.error_response.ErrorResponse.{ErrorResponse}
use Rattle.wf_edge.specs.declared.outcome.Outcome.{Outcome}
use Rattle.wf_edge.specs.declared.resource.RequestedResource.{RequestedResource}
use Rattle.wf_edge.specs.declared.resource.RequestedResource.TheVariants as asked
use Rattle.wf_edge.specs.declared.status.Status.{Status}
use Rattle.wf_http.specs.Response.{Response}
use Rattle.wf_http.specs.Target.{query_of}
use Rattle.wf_stream.specs.declared.stream.Sink.{Ghosts as Sink}

-- `changes` says what the map service's answer to a query does to them, by the published maps.
module _ {P : Type 0} (changes : List Definition → List ℕ → P → P → Type 0) where
  -- a query that isn't answered, since an allocation failed, leaves them
  abbrev pub ChangesFor : List Definition → List ℕ → Result Response ErrorResponse → P → P → Type 0
  ChangesFor history query (Ok page) old new = changes history query old new
  ChangesFor history query (Err error_response) old new = new ≡ old

  -- only a query to the map service needs them
  abbrev pub ChangesPictures : RequestedResource → List Definition → List ℕ → Result Response ErrorResponse → P → P → Type 0
  ChangesPictures asked.Wms history query answer old new = ChangesFor history query answer old new
  ChangesPictures asked.Status history query answer old new = new ≡ old
  ChangesPictures (asked.Publish bytes) history query answer old new = new ≡ old

  -- A request that only reads was answered from a list of published maps and a status, and its
  -- response written: that is the change.
  pub record IsReadBy {K : Type 0} (sinks : Sink K) (request : Request) (history : List Definition) (status : Status) (sink sink_after : K) (old new : P) (completion : Outcome) : Type 0 where
    pub answer : Result Response ErrorResponse
    pub answers : AnswersRequest request.asked (query_of request.head.target) history status answer
    pub completes : Completes sinks (response_of answer) sink sink_after completion
    pub changed : ChangesPictures request.asked history (query_of request.head.target) answer old new

  -- a request changes nothing, or it is one query to the map service
  abbrev pub ChangesOnce : List Definition → P → P → Type 0
  ChangesOnce history old new = (new ≡ old) ⊎ ((query : List ℕ) × changes history query old new)

  changed_once : (kind : RequestedResource) (history : List Definition) (query : List ℕ) (answer : Result Response ErrorResponse) (old new : P) → ChangesPictures kind history query answer old new →
      ChangesOnce history old new
  changed_once asked.Wms history query (Ok page) old new changed = inr (query, changed)
  changed_once asked.Wms history query (Err error_response) old new changed = inl changed
  changed_once asked.Status history query answer old new changed = inl changed
  changed_once (asked.Publish bytes) history query answer old new changed = inl changed

  pub read_once : {K : Type 0} (sinks : Sink K) (request : Request) (history : List Definition) (status : Status) (sink sink_after : K) (old new : P) (completion : Outcome) →
      IsReadBy sinks request history status sink sink_after old new completion → ChangesOnce history old new
  read_once sinks request history status sink sink_after old new completion is =
      changed_once request.asked history (query_of request.head.target) is.answer old new is.changed
