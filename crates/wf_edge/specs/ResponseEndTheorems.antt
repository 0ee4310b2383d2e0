-- From how a response ended to how a request ended.
use Rattle.std.proofs.Common.{◌≡◌, ℕ, List, [], Vec, refl, sym, subst}
use Rattle.std.specs.Prelude.{Option, Result, Ok, Err, IfSome}
use Rattle.wf_codec.specs.declared.message.Message.{Message}
use Rattle.wf_node.specs.Node.{Node}
use Rattle.wf_edge.specs.ResponseEnd.{IsEnded, IsFaultEnded}
use Rattle.wf_edge.specs.ErrorResponse.{response_of}
use Rattle.wf_edge.specs.Request.{Request, IsRequestFault, BeginsWith}
use Rattle.wf_http.specs.Front.{CountsReads}
use Rattle.wf_http.specs.Response.{Response}
use Rattle.wf_edge.specs.ReceiptTheorems.{fault_reads}
use Rattle.wf_edge.specs.Completion.{CountsCompleting, IsErrorCompleted}
use Rattle.wf_edge.specs.RequestEffect.{HasRequest, GivesReply, IsEnding, IsServed, Serves}
use Rattle.wf_edge.specs.RequestEffectTheorems.{fault_outcome, served_moves, served_outcome, served_reads, served_writes, unmoved_moves}
use Rattle.wf_http.specs.declared.fault.RequestFault.{RequestFault}
use Rattle.wf_http.specs.declared.fault.RequestFault.TheVariants as fault
use Rattle.wf_edge.specs.declared.error_response.ErrorResponse.{ErrorResponse}
use Rattle.wf_edge.specs.declared.error_response.ErrorResponse.TheVariants as error_response
use Rattle.wf_edge.specs.declared.outcome.Outcome.{Outcome}
use Rattle.wf_edge.specs.declared.outcome.Outcome.TheVariants as outcome
use Rattle.wf_stream.specs.declared.stream.Sink.{Ghosts as Sink}
use Rattle.wf_stream.specs.declared.stream.Source.{Ghosts as Source}
use Rattle.wf_tape.specs.declared.tape.Tape.{Ghosts as Tape}

module _ {K : Type 0} (sinks : Sink K) where
  module _ {T A : Type 0} (tapes : Tape T) where
    completion_ending : (input : Option (List ℕ)) (old new : K) (arrived : Result Request RequestFault) (before after : Node T) (answer : Result Response ErrorResponse)
        (sent : Vec Message A) (completion : Outcome) → IfSome input (λ bytes. HasRequest bytes arrived) → GivesReply tapes arrived before answer sent after
        → IsEnded sinks (response_of answer) old new completion
        → IsEnding tapes sinks input old new before sent after completion
    completion_ending input old new arrived before after answer sent (outcome.Sent status count) asks given ended = ended
    completion_ending input old new arrived before after answer sent (outcome.WriteFailed status count) asks given ended = record {
      response = response_of answer;
      responds = record { arrived = arrived; asks = asks; answer = answer; gives = given; is = refl };
      breaks = ended.0;
      status_is = ended.1;
    }
    completion_ending input old new arrived before after answer sent outcome.ReadFailed asks given ended = absurd ended
    completion_ending input old new arrived before after answer sent outcome.NoRequest asks given ended = absurd ended

    -- a request that was read, where the writer was as it is until it was answered
    pub served_ending : (input : Option (List ℕ)) (first old new : K) (request : Request) (before after : Node T) (sent : Vec Message A) (completion : Outcome)
        → IfSome input (λ bytes. BeginsWith bytes request) → old ≡ first
        → IsServed tapes sinks request old new before sent after completion
        → IsEnding tapes sinks input first new before sent after completion
    served_ending input first old new request before after sent completion begins quiet served =
        subst (λ start. IsEnding tapes sinks input start new before sent after completion) quiet
        (completion_ending input old new (Ok request) before after served.answer sent completion begins served.gives served.completes.ended)

    -- if there is no request, its rejection ended, or the writer is unchanged
    pub fault_ending : (input : Option (List ℕ)) (old new : K) (why : RequestFault) (node : Node T) (sent : Vec Message A) (completion : Outcome)
        → IfSome input (λ bytes. IsRequestFault bytes why) → sent.items ≡ [] → IsFaultEnded sinks why old new completion
        → IsEnding tapes sinks input old new node sent node completion
    fault_ending input old new (fault.Rejected r) node sent completion asks quiet ended =
        completion_ending input old new (Err (fault.Rejected r)) node node (Err (error_response.Rejected r)) sent completion asks (refl, record { same = refl; quiet = quiet }) ended
    fault_ending input old new fault.Memory node sent completion asks quiet ended =
        completion_ending input old new (Err fault.Memory) node node (Err error_response.Unavailable) sent completion asks (refl, record { same = refl; quiet = quiet }) ended
    fault_ending input old new fault.NoRequest node sent completion asks quiet ended =
        subst (λ o. IsEnding tapes sinks input old new node sent node o) (sym ended.0) ended.1
    fault_ending input old new fault.ReadFailed node sent completion asks quiet ended =
        subst (λ o. IsEnding tapes sinks input old new node sent node o) (sym ended.0) ended.1

-- ---- one request, served as a whole

module _ {S K T A : Type 0} (sources : Source S) (sinks : Sink K) (tapes : Tape T) where
  -- a request that was read and answered, where the writer was as it is until it was answered
  pub read_serves : (source source_after : S) (first sink sink_after : K) (request : Request) (before after : Node T) (sent : Vec Message A) (completion : Outcome)
      → IfSome (sources.left source) (λ bytes. BeginsWith bytes request) → sink ≡ first → sources.failures source_after ≡ sources.failures source
      → IsServed tapes sinks request sink sink_after before sent after completion
      → Serves tapes sinks sources source source_after first sink_after before sent after completion
  read_serves source source_after first sink sink_after request before after sent completion begins quiet calm served = record {
    outcome = served_outcome tapes sinks (sources.left source) first sink sink_after request before after sent completion begins quiet served;
    moves = served_moves tapes sinks request sink sink_after before after sent completion served;
    reads = served_reads tapes sinks request sink sink_after before after sent completion (sources.failures source) (sources.failures source_after) calm served;
    writes = served_writes tapes sinks first sink sink_after request before after sent completion quiet served;
    last = served_ending sinks tapes (sources.left source) first sink sink_after request before after sent completion begins quiet served;
  }

  -- there was no request, for a reason that was reported
  pub fault_serves : (source source_after : S) (sink sink_after : K) (node : Node T) (why : RequestFault) (completion : Outcome)
      → IfSome (sources.left source) (λ input. IsRequestFault input why)
      → CountsReads {T = Request} (Err why) (sources.failures source) (sources.failures source_after)
      → IsErrorCompleted why (sinks.written sink) (sinks.written sink_after) completion
      → CountsCompleting completion (sinks.failures sink) (sinks.failures sink_after)
      → IsFaultEnded sinks why sink sink_after completion
      → (sent : Vec Message A) → sent.items ≡ [] → Serves tapes sinks sources source source_after sink sink_after node sent node completion
  fault_serves source source_after sink sink_after node why completion is reads written writes ends sent quiet = record {
    outcome = fault_outcome tapes (sources.left source) (sinks.written sink) (sinks.written sink_after) why node sent completion is quiet written;
    moves = unmoved_moves tapes node sent quiet;
    reads = fault_reads why (sinks.written sink) (sinks.written sink_after) completion (sources.failures source) (sources.failures source_after) written reads;
    writes = writes;
    last = fault_ending sinks tapes (sources.left source) sink sink_after why node sent completion is quiet ends;
  }
