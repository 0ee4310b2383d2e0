-- From what was read, answered and written to the outcome of a request.
use Rattle.std.proofs.Common.{◌≡◌, ℕ, List, [], Vec, refl, sym, subst, subst₂}
use Rattle.std.specs.Prelude.{Option, Result, Ok, Err, IfSome}
use Rattle.wf_codec.specs.declared.message.Message.{Message}
use Rattle.wf_def.specs.Definition.{Definition}
use Rattle.wf_node.specs.Node.{Node}
use Rattle.wf_edge.specs.Request.{Request, IsRequestFault, BeginsWith}
use Rattle.wf_http.specs.Response.{Response}
use Rattle.wf_http.specs.Target.{query_of}
use Rattle.wf_edge.specs.ResponseEnd.{Completes}
use Rattle.wf_edge.specs.ErrorResponse.{response_of}
use Rattle.wf_edge.specs.Page.{status_at}
use Rattle.wf_edge.specs.Publish.{IsPublished}
use Rattle.wf_edge.specs.Completion.{IsCompleted, IsErrorCompleted, CountsCompleting}
use Rattle.wf_edge.specs.Receipt.{CountsReceiving}
use Rattle.wf_edge.specs.RequestEffect.{AnswersRequest, HasRequest, IsPublish, IsReadAnswered, ReportsPublish, GivesPublish, GivesTo, GivesReply, IsServed, MovesOnce, Stays, Proposes, IsOutcome}
use Rattle.wf_http.specs.declared.fault.RequestFault.{RequestFault}
use Rattle.wf_http.specs.declared.fault.RequestFault.TheVariants as fault
use Rattle.wf_edge.specs.declared.error_response.ErrorResponse.{ErrorResponse}
use Rattle.wf_edge.specs.declared.error_response.ErrorResponse.TheVariants as error_response
use Rattle.wf_edge.specs.declared.outcome.Outcome.{Outcome}
use Rattle.wf_edge.specs.declared.outcome.Outcome.TheVariants as outcome
use Rattle.wf_edge.specs.declared.publish_fault.PublishFault.{PublishFault}
use Rattle.wf_edge.specs.declared.publish_fault.PublishFault.TheVariants as publish
use Rattle.wf_edge.specs.declared.resource.RequestedResource.{RequestedResource}
use Rattle.wf_edge.specs.declared.resource.RequestedResource.TheVariants as asked
use Rattle.wf_edge.specs.declared.status.Status.{Status}
use Rattle.wf_edge.specs.ReceiptTheorems.{calm_reads}
use Rattle.wf_stream.specs.declared.stream.Sink.{Ghosts as Sink}
use Rattle.wf_tape.specs.declared.tape.Tape.{Ghosts as Tape}

module _ {T A : Type 0} (tapes : Tape T) where
  pub gives_published : (body : List ℕ) (before after : Node T) (done : Result (Response × Vec Message A) PublishFault) (answer : Result Response ErrorResponse)
      (sent : Vec Message A) → IsPublished tapes body before done after → ReportsPublish done answer sent
      → GivesPublish tapes body before answer sent after
  gives_published body before after done answer sent becomes reported = record { done = done; published = becomes; reports = reported }

  -- ---- a request's effect on the node

  published_moves : (body : List ℕ) (before after : Node T) (done : Result (Response × Vec Message A) PublishFault) (answer : Result Response ErrorResponse)
      (sent : Vec Message A) → IsPublished tapes body before done after → ReportsPublish done answer sent
      → MovesOnce tapes before sent after
  published_moves body before after (Ok done) answer sent becomes reported = Proposes becomes.0 (Ok done.1) becomes.2 reported.1
  published_moves body before after (Err (publish.Node why)) answer sent becomes reported = Proposes becomes.0 (Err why) becomes.2 reported.1
  published_moves body before after (Err (publish.Map why)) answer sent becomes reported = Stays (record { same = becomes.1; quiet = reported.1 })
  published_moves body before after (Err publish.TooBig) answer sent becomes reported = Stays (record { same = becomes.1; quiet = reported.1 })
  published_moves body before after (Err publish.Memory) answer sent becomes reported = Stays (record { same = becomes.1; quiet = reported.1 })

  given_moves : (kind : RequestedResource) (request : Request) (before after : Node T) (answer : Result Response ErrorResponse) (sent : Vec Message A)
      → GivesTo tapes kind request before answer sent after → MovesOnce tapes before sent after
  given_moves asked.Wms request before after answer sent given = Stays given.1
  given_moves asked.Status request before after answer sent given = Stays given.1
  given_moves (asked.Publish bytes) request before after answer sent given = published_moves request.body before after given.done answer sent given.published given.reports

  pub unmoved_moves : (node : Node T) (sent : Vec Message A) → sent.items ≡ [] → MovesOnce tapes node sent node
  unmoved_moves node sent quiet = Stays (record { same = refl; quiet = quiet })

  -- ---- the outcome

  -- a response that is written is the outcome
  completion_outcome : (input old new : Option (List ℕ)) (arrived : Result Request RequestFault) (before after : Node T) (answer : Result Response ErrorResponse)
      (sent : Vec Message A) (completion : Outcome) → IfSome input (λ bytes. HasRequest bytes arrived) → GivesReply tapes arrived before answer sent after
      → IsCompleted (response_of answer) old new completion → IsOutcome tapes input old new before sent after completion
  completion_outcome input old new arrived before after answer sent (outcome.Sent status count) asks given written = record {
    response = response_of answer;
    responds = record { arrived = arrived; asks = asks; answer = answer; gives = given; is = refl };
    written = written.0;
    status_is = written.1;
    count_is = written.2;
  }
  completion_outcome input old new arrived before after answer sent (outcome.WriteFailed status count) asks given written = record {
    response = response_of answer;
    responds = record { arrived = arrived; asks = asks; answer = answer; gives = given; is = refl };
    written = written.0;
    status_is = written.1;
  }
  completion_outcome input old new arrived before after answer sent outcome.ReadFailed asks given written = absurd written
  completion_outcome input old new arrived before after answer sent outcome.NoRequest asks given written = absurd written

  -- if there is no request, its rejection is the outcome, or nothing
  pub fault_outcome : (input old new : Option (List ℕ)) (why : RequestFault) (node : Node T) (sent : Vec Message A) (completion : Outcome)
      → IfSome input (λ bytes. IsRequestFault bytes why) → sent.items ≡ [] → IsErrorCompleted why old new completion
      → IsOutcome tapes input old new node sent node completion
  fault_outcome input old new (fault.Rejected r) node sent completion asks quiet written =
      completion_outcome input old new (Err (fault.Rejected r)) node node (Err (error_response.Rejected r)) sent completion asks (refl, record { same = refl; quiet = quiet }) written
  fault_outcome input old new fault.Memory node sent completion asks quiet written =
      completion_outcome input old new (Err fault.Memory) node node (Err error_response.Unavailable) sent completion asks (refl, record { same = refl; quiet = quiet }) written
  fault_outcome input old new fault.NoRequest node sent completion asks quiet written =
      subst (λ o. IsOutcome tapes input old new node sent node o) (sym written.0) (asks, record { same = refl; quiet = quiet }, written.1)
  fault_outcome input old new fault.ReadFailed node sent completion asks quiet written =
      subst (λ o. IsOutcome tapes input old new node sent node o) (sym written.0) (record { same = refl; quiet = quiet }, written.1)

  -- ---- a request that was read

  module _ {K : Type 0} (sinks : Sink K) where
    served_by : (kind : RequestedResource) (request : Request) (old new : K) (before after : Node T) (answer : Result Response ErrorResponse)
        (sent : Vec Message A) (completion : Outcome) → kind ≡ request.asked → GivesTo tapes kind request before answer sent after
        → Completes sinks (response_of answer) old new completion → IsServed tapes sinks request old new before sent after completion
    served_by kind request old new before after answer sent completion is given completes = record {
      answer = answer;
      gives = subst (λ k. GivesTo tapes k request before answer sent after) is given;
      completes = completes;
    }

    answer_given : (kind : RequestedResource) (request : Request) (old new : K) (node : Node T) (answer : Result Response ErrorResponse)
        (completion : Outcome) → kind ≡ request.asked → AnswersRequest kind (query_of request.head.target) node.parts.history (status_at node) answer
        → Completes sinks (response_of answer) old new completion
        → (sent : Vec Message A) → sent.items ≡ [] → IsServed tapes sinks request old new node sent node completion
    answer_given asked.Wms request old new node answer completion is answers completes sent quiet =
        served_by asked.Wms request old new node node answer sent completion is (answers, record { same = refl; quiet = quiet }) completes
    answer_given asked.Status request old new node answer completion is answers completes sent quiet =
        served_by asked.Status request old new node node answer sent completion is (answers, record { same = refl; quiet = quiet }) completes
    answer_given (asked.Publish bytes) request old new node answer completion is answers completes sent quiet = absurd answers

    -- what was answered from a node's list of published maps and its status was answered by the
    -- node, which sends nothing
    pub read_served : (request : Request) (old new : K) (node : Node T) (history : List Definition) (status : Status) (completion : Outcome)
        → history ≡ node.parts.history → status ≡ status_at node → IsReadAnswered sinks request history status old new completion
        → (sent : Vec Message A) → sent.items ≡ [] → IsServed tapes sinks request old new node sent node completion
    read_served request old new node history status completion same is read =
        answer_given request.asked request old new node read.answer completion refl
        (subst₂ (λ (h : List Definition) (s : Status). AnswersRequest request.asked (query_of request.head.target) h s read.answer) same is read.answers) read.completes

    -- a publish was answered, and the response written
    pub publish_served : (kind : RequestedResource) (request : Request) (old new : K) (before after : Node T) (answer : Result Response ErrorResponse)
        (sent : Vec Message A) (completion : Outcome) → kind ≡ request.asked → IsPublish kind → GivesPublish tapes request.body before answer sent after
        → Completes sinks (response_of answer) old new completion → IsServed tapes sinks request old new before sent after completion
    publish_served asked.Wms request old new before after answer sent completion is publishes given completes = absurd publishes
    publish_served asked.Status request old new before after answer sent completion is publishes given completes = absurd publishes
    publish_served (asked.Publish bytes) request old new before after answer sent completion is publishes given completes =
        served_by (asked.Publish bytes) request old new before after answer sent completion is given completes

    pub served_moves : (request : Request) (old new : K) (before after : Node T) (sent : Vec Message A) (completion : Outcome)
        → IsServed tapes sinks request old new before sent after completion → MovesOnce tapes before sent after
    served_moves request old new before after sent completion served = given_moves request.asked request before after served.answer sent served.gives

    -- no read has failed
    pub served_reads : (request : Request) (old new : K) (before after : Node T) (sent : Vec Message A) (completion : Outcome) (first last : ℕ)
        → last ≡ first → IsServed tapes sinks request old new before sent after completion → CountsReceiving completion first last
    served_reads request old new before after sent completion first last calm served =
        calm_reads _ (sinks.written old) (sinks.written new) completion first last calm served.completes.written

    -- a failed write is reported; the writer was as it is until the request was answered
    pub served_writes : (first old new : K) (request : Request) (before after : Node T) (sent : Vec Message A) (completion : Outcome)
        → old ≡ first → IsServed tapes sinks request old new before sent after completion
        → CountsCompleting completion (sinks.failures first) (sinks.failures new)
    served_writes first old new request before after sent completion quiet served =
        subst (λ start. CountsCompleting completion (sinks.failures start) (sinks.failures new)) quiet served.completes.counts

    pub served_outcome : (input : Option (List ℕ)) (first old new : K) (request : Request) (before after : Node T) (sent : Vec Message A) (completion : Outcome)
        → IfSome input (λ bytes. BeginsWith bytes request) → old ≡ first
        → IsServed tapes sinks request old new before sent after completion
        → IsOutcome tapes input (sinks.written first) (sinks.written new) before sent after completion
    served_outcome input first old new request before after sent completion begins quiet served =
        subst (λ start. IsOutcome tapes input (sinks.written start) (sinks.written new) before sent after completion) quiet
        (completion_outcome input (sinks.written old) (sinks.written new) (Ok request) before after served.answer sent completion begins served.gives served.completes.written)
