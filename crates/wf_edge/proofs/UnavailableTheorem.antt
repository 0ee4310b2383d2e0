-- A response 503 is to a request that may be answered so.
use Rattle.std.proofs.Common.{◌≡◌, ◌∙◌, ℕ, List, Vec, refl, sym, ap, arith}
use Rattle.std.specs.Prelude.{Result, Ok, Err}
use Rattle.wf_codec.specs.declared.message.Message.{Message}
use Rattle.wf_edge.specs.Request.{Request, BeginsWith}
use Rattle.wf_http.specs.Response.{Response}
use Rattle.wf_http.specs.Target.{query_of}
use Rattle.wf_http.specs.declared.fault.RequestFault.{RequestFault}
use Rattle.wf_http.specs.declared.fault.RequestFault.TheVariants as fault
use Rattle.wf_http.specs.declared.http_error.HttpError.{HttpError}
use Rattle.wf_http.specs.declared.http_error.HttpError.TheVariants as http_error
use Rattle.wf_edge.specs.declared.resource.RequestedResource.{RequestedResource}
use Rattle.wf_edge.specs.declared.resource.RequestedResource.TheVariants as asked
use Rattle.wf_node.specs.Node.{Node}
use Rattle.wf_node.specs.declared.fault.NodeFault.{NodeFault}
use Rattle.wf_node.specs.declared.fault.NodeFault.TheVariants as node
use Rattle.wf_edge.specs.ErrorResponse.{error_of_result, http_error_status, response_of, status_of}
use Rattle.wf_edge.specs.Page.{accepted_page, bad_map_page, status_at, status_page}
use Rattle.wf_edge.specs.Publish.{IsPublished}
use Rattle.wf_edge.specs.RequestEffect.{HasRequest, GivesReply, GivesTo, ReportsPublish}
use Rattle.wf_edge.specs.Unavailable.{MayBeUnavailable, OnlyTheseAreUnavailable, BeginsWithPublish, by_body, by_map, by_service, by_step}
use Rattle.wf_edge.specs.declared.error_response.ErrorResponse.{ErrorResponse}
use Rattle.wf_edge.specs.declared.error_response.ErrorResponse.TheVariants as error_response
use Rattle.wf_edge.specs.declared.publish_fault.PublishFault.{PublishFault}
use Rattle.wf_edge.specs.declared.publish_fault.PublishFault.TheVariants as publish
use Rattle.wf_tape.specs.declared.tape.Tape.{Ghosts as Tape}

-- no rejection has the status 503
no_rejection : {P : Type 0} (r : HttpError) → http_error_status r ≡ 503 → P
no_rejection http_error.BadRequest is = absurd (omega (arith, is))
no_rejection http_error.NotFound is = absurd (omega (arith, is))
no_rejection (http_error.MethodNotAllowed method) is = absurd (omega (arith, is))
no_rejection http_error.LengthRequired is = absurd (omega (arith, is))
no_rejection http_error.ContentTooLarge is = absurd (omega (arith, is))
no_rejection http_error.HeadTooLarge is = absurd (omega (arith, is))
no_rejection http_error.NotImplemented is = absurd (omega (arith, is))

-- a node's error that is answered with 503
node_unavailable : (why : NodeFault) → status_of (error_of_result why) ≡ 503 → error_of_result why ≡ error_response.Unavailable
node_unavailable node.Memory is = refl
node_unavailable node.Busy is = absurd (omega (arith, is))
node_unavailable node.SequenceFull is = absurd (omega (arith, is))
node_unavailable node.RoundsFull is = absurd (omega (arith, is))
node_unavailable node.Halted is = refl
node_unavailable node.TapeFailed is = refl
node_unavailable node.Nothing is = refl

-- an answer has the status of what it is
status_is : (answer is : Result Response ErrorResponse) → answer ≡ is → (response_of answer).status ≡ 503 → (response_of is).status ≡ 503
status_is answer is same unavailable = sym (ap (λ (a : Result Response ErrorResponse). (response_of a).status) same) ∙ unavailable

module _ {T : Type 0} (A : Type 0) (tapes : Tape T) (input : List ℕ) (before after : Node T) where
  abbrev Allowed : Type 0
  Allowed = MayBeUnavailable A tapes input before after

  accepted_page_is : (page : Response) (last : ℕ) → page ≡ accepted_page last → page.status ≡ 503 → Allowed
  accepted_page_is page last is unavailable =
      let clash : 202 ≡ 503 = sym (ap (λ (r : Response). r.status) is) ∙ unavailable in absurd (omega (arith, clash))

  -- a publish
  of_publish : (request : Request) (bytes : ℕ) (done : Result (Response × Vec Message A) PublishFault) (answer : Result Response ErrorResponse) (sent : Vec Message A)
      → BeginsWithPublish input request.body → IsPublished tapes request.body before done after → ReportsPublish done answer sent
      → (response_of answer).status ≡ 503 → Allowed
  of_publish request bytes (Ok done) answer sent asks becomes reports unavailable =
      accepted_page_is done.0 _ becomes.3 (status_is answer (Ok done.0) reports.0 unavailable)
  of_publish request bytes (Err (publish.Map why)) answer sent asks becomes reports unavailable =
      let clash : 400 ≡ 503 = status_is answer (Ok (bad_map_page why)) reports.0 unavailable in absurd (omega (arith, clash))
  of_publish request bytes (Err publish.TooBig) answer sent asks becomes reports unavailable =
      let clash : 400 ≡ 503 = status_is answer (Err error_response.TooBig) reports.0 unavailable in absurd (omega (arith, clash))
  of_publish request bytes (Err publish.Memory) answer sent asks becomes reports unavailable = by_map request.body asks becomes.0
  of_publish request bytes (Err (publish.Node why)) answer sent asks becomes reports unavailable =
      by_step request.body asks (record {
        map = becomes.0;
        of_body = becomes.1;
        why = why;
        step = becomes.2;
        is = node_unavailable why (status_is answer (Err (error_of_result why)) reports.0 unavailable);
      })

  -- a request that was read
  of_request : (kind : RequestedResource) (request : Request) (answer : Result Response ErrorResponse) (sent : Vec Message A) → request.asked ≡ kind → BeginsWith input request
      → GivesTo tapes kind request before answer sent after → (response_of answer).status ≡ 503 → Allowed
  of_request asked.Wms request answer sent asks begins given unavailable =
      by_service (query_of request.head.target) (record { request = request; begins = begins; of_service = asks; of_query = refl })
  of_request asked.Status request answer sent asks begins given unavailable =
      let clash : 200 ≡ 503 = status_is answer (Ok (status_page (status_at before))) given.0 unavailable in absurd (omega (arith, clash))
  of_request (asked.Publish bytes) request answer sent asks begins given unavailable =
      of_publish request bytes given.done answer sent (record { request = request; begins = begins; bytes = bytes; asks = asks; of_body = refl })
      given.published given.reports unavailable

  -- a request, or that there is none
  of_arrived : (arrived : Result Request RequestFault) (answer : Result Response ErrorResponse) (sent : Vec Message A) → HasRequest input arrived
      → GivesReply tapes arrived before answer sent after → (response_of answer).status ≡ 503 → Allowed
  of_arrived (Ok request) answer sent asks given unavailable = of_request request.asked request answer sent refl asks given unavailable
  of_arrived (Err (fault.Rejected r)) answer sent asks given unavailable = no_rejection r (status_is answer (Err (error_response.Rejected r)) given.0 unavailable)
  of_arrived (Err fault.Memory) answer sent asks given unavailable = by_body asks
  of_arrived (Err fault.NoRequest) answer sent asks given unavailable = absurd given
  of_arrived (Err fault.ReadFailed) answer sent asks given unavailable = absurd given

pub only_these : {T : Type 0} (A : Type 0) (tapes : Tape T)
    → OnlyTheseAreUnavailable A tapes
only_these A tapes input before after sent response responds unavailable =
    of_arrived A tapes input before after responds.arrived responds.answer sent responds.asks responds.gives
    (sym (ap (λ (r : Response). r.status) responds.is) ∙ unavailable)
