-- A request to the map service has one response, wherever the map that it asks for is the same, or
-- its text alone rejects it.
use Rattle.std.proofs.Common.{◌≡◌, ◌≢◌, ◌∙◌, ◌<◌, ℕ, List, length, Vec, refl, sym, ap, subst, arith}
use Rattle.std.specs.Prelude.{Some, Result, Ok, Err}
use Rattle.httparse.proofs.GrammarLemmas.{request_unique}
use Rattle.wf_codec.specs.declared.message.Message.{Message}
use Rattle.wf_def.specs.Definition.{Definition}
use Rattle.wf_learner.specs.History.{map_at}
use Rattle.wf_node.specs.Node.{Node}
use Rattle.wf_wms.specs.Answer.{AnswerValue, AskedMapsAreAnsweredAlike, AsksForMap, EachQueryHasOneAnswer, IsAnswerOf, operation_of, or_own, rejection, subject, subject_of}
use Rattle.wf_wms.specs.Query.{pairs_of}
use Rattle.wf_wms.specs.Rejection.{TextsAreRejectedAlike}
use Rattle.wf_edge.specs.Route.{resolved}
use Rattle.wf_http.specs.Head.{Head, Begins, head_of}
use Rattle.wf_edge.specs.Theorem.{AsksMapService, stand_alike, are_asked_alike, is_rejected_by_text, reject_alike, EachQueryHasOnePage, EqualRequestsHaveEqualResponses}
use Rattle.wf_edge.specs.ErrorResponse.{response_of}
use Rattle.wf_edge.specs.Page.{service_page, IsServicePage, IsServiceGiven}
use Rattle.wf_http.specs.Front.{IsHeadError}
use Rattle.wf_edge.specs.Request.{Request, IsRejected, by_head, by_check, by_body, body_bytes}
use Rattle.wf_http.specs.Response.{Response, response_bytes}
use Rattle.wf_edge.specs.RequestEffect.{HasRequest, GivesReply, GivesTo, Responds}
use Rattle.wf_http.specs.Target.{query_of}
use Rattle.wf_http.specs.declared.fault.RequestFault.{RequestFault}
use Rattle.wf_http.specs.declared.fault.RequestFault.TheVariants as fault
use Rattle.wf_edge.specs.declared.error_response.ErrorResponse.{ErrorResponse}
use Rattle.wf_edge.specs.declared.error_response.ErrorResponse.TheVariants as error_response
use Rattle.wf_http.specs.declared.http_error.HttpError.{HttpError}
use Rattle.wf_http.specs.declared.http_error.HttpError.TheVariants as http_error
use Rattle.wf_edge.specs.declared.resource.RequestedResource.{RequestedResource}
use Rattle.wf_edge.specs.declared.resource.RequestedResource.TheVariants as asked
use Rattle.wf_tape.specs.declared.tape.Tape.{Ghosts as Tape}

-- ---- one page

-- a GetMap request is about the map that it names
asked_subject : (m s : ℕ) (query : List ℕ) → AsksForMap m s query → subject s query ≡ m
unfolding subject
asked_subject m s query asks =
    subst (λ r. subject_of (operation_of r) s (pairs_of query) ≡ m) (sym asks.request) (ap (or_own s) asks.sequence)

-- one answer has one page
page_of_answer : (page another : Response) (answer other : AnswerValue) → page ≡ service_page answer → another ≡ service_page other → other ≡ answer → another ≡ page
page_of_answer page another answer other is also same = also ∙ ap (λ (a : AnswerValue). service_page a) same ∙ sym is

pub one_page : EachQueryHasOneAnswer → AskedMapsAreAnsweredAlike → TextsAreRejectedAlike → EachQueryHasOnePage
one_page theorem elsewhere texts query history other page another (stand_alike long same) first second =
    page_of_answer page another first.answer second.answer first.is_page second.is_page
    (theorem (length history) history other query first.answer second.answer same first.is_answer (subst (λ s. IsAnswerOf s other query second.answer) long second.is_answer))
one_page theorem elsewhere texts query history other page another (are_asked_alike m asks also same) first second =
    let about = asked_subject m (length history) query asks in
    page_of_answer page another first.answer second.answer first.is_page second.is_page
    (theorem (length history) history other query first.answer second.answer (ap (map_at history) about ∙ same ∙ sym (ap (map_at other) about)) first.is_answer
    (elsewhere (length history) (length other) m other query second.answer asks also second.is_answer))
one_page theorem elsewhere texts query history other page another (is_rejected_by_text e fails) first second =
    page_of_answer page another first.answer second.answer first.is_page second.is_page
    (texts (length other) other query e second.answer fails second.is_answer
    ∙ sym (texts (length history) history query e first.answer fails first.is_answer))
one_page theorem elsewhere texts query history other page another (reject_alike e here there) first second =
    page_of_answer page another first.answer second.answer first.is_page second.is_page
    (theorem (length other) other other query (rejection e) second.answer refl there second.is_answer
    ∙ sym (theorem (length history) history history query (rejection e) first.answer refl here first.is_answer))

-- ---- the page is the response

-- one input has one head
pub one_head : (input rest left : List ℕ) (head other : Head) → Begins input head rest → Begins input other left → head ≡ other
one_head input rest left head other first second =
    first.is ∙ ap (λ h. head_of h) (request_unique input first.printed second.printed rest left first.reads second.reads).0 ∙ sym second.is

-- a head that asks for something passes its checks
not_rejected : (head : Head) (asks : RequestedResource) (r : HttpError) → resolved head ≡ Ok asks → resolved head ≡ Err r → ⊥
not_rejected head asks r is fails = let clash : Ok asks ≡ Err r = sym is ∙ fails in cc

abbrev passes : RequestedResource → Result RequestedResource HttpError
passes asks = Ok asks

same_asked : (head : Head) (asks other : RequestedResource) → resolved head ≡ Ok asks → resolved head ≡ Ok other → asks ≡ other
same_asked head asks other is also = let same : passes asks ≡ passes other = sym is ∙ also in cc

module _ (input query : List ℕ) (service : AsksMapService input query) where
  no_head_error : (r : HttpError) → IsHeadError input r → ⊥
  no_head_error http_error.BadRequest none = none service.begins.head.printed service.begins.rest service.begins.head.reads
  no_head_error http_error.HeadTooLarge none = none service.begins.head.printed service.begins.rest service.begins.head.reads service.begins.head.small
  no_head_error http_error.NotFound none = none
  no_head_error (http_error.MethodNotAllowed method) none = none
  no_head_error http_error.LengthRequired none = none
  no_head_error http_error.ContentTooLarge none = none
  no_head_error http_error.NotImplemented none = none

  -- the request at the front is what is asked for
  pub asked_is : (rest : List ℕ) (head : Head) (asks : RequestedResource) → Begins input head rest → resolved head ≡ Ok asks → asks ≡ asked.Wms
  asked_is rest head asks begins is =
      let same : service.request.head ≡ head = one_head input service.begins.rest rest service.request.head head service.begins.head begins in
      same_asked head asks service.request.asked is (subst (λ h. resolved h ≡ Ok service.request.asked) same service.begins.asks) ∙ service.of_service

  -- it isn't rejected
  pub no_http_error : (r : HttpError) → IsRejected input r → ⊥
  no_http_error r (by_head some none) = no_head_error r none
  no_http_error r (by_check fails) =
      let same : service.request.head ≡ fails.head =
      one_head input service.begins.rest fails.rest service.request.head fails.head service.begins.head fails.begins in
      not_rejected fails.head service.request.asked r (subst (λ h. resolved h ≡ Ok service.request.asked) same service.begins.asks) fails.fails
  no_http_error r (by_body ends) =
      let none : body_bytes ends.asked ≡ 0 = ap (λ a. body_bytes a) (asked_is ends.rest ends.head ends.asked ends.begins ends.asks) in
      let short : length ends.rest < body_bytes ends.asked = ends.short in
      absurd (omega arith)

  -- a response that isn't 503 is the page
  pub page_given : (history : List Definition) (target : List ℕ) (answer : Result Response ErrorResponse) (response : Response) → target ≡ query → response ≡ response_of answer
      → response.status ≢ 503 → IsServiceGiven history target answer → IsServicePage history query response
  page_given history target (Ok page) response same is calm given =
      subst (λ p. IsServicePage history query p) (sym is) (subst (λ q. IsServicePage history q page) same given)
  page_given history target (Err n) response same is calm given =
      let reported : response ≡ response_of (Err error_response.Unavailable) = is ∙ ap (λ (m : ErrorResponse). response_of (Err m)) given in
      absurd (calm (ap (λ (r : Response). r.status) reported))

  pub no_memory : (answer : Result Response ErrorResponse) (response : Response) → response ≡ response_of answer → response.status ≢ 503 → answer ≡ Err error_response.Unavailable → ⊥
  no_memory answer response is calm given = calm (ap (λ (r : Response). r.status) (is ∙ ap (λ (a : Result Response ErrorResponse). response_of a) given))

  module _ {T A : Type 0} (tapes : Tape T) where
    page_arrived : (arrived : Result Request RequestFault) (before after : Node T) (sent : Vec Message A) (answer : Result Response ErrorResponse) (response : Response)
        → HasRequest input arrived → GivesReply tapes arrived before answer sent after → response ≡ response_of answer → response.status ≢ 503
        → IsServicePage before.parts.history query response
    page_arrived (Ok arrived) before after sent answer response asks given is calm =
        let same : service.request.head ≡ arrived.head = one_head input service.begins.rest asks.rest service.request.head arrived.head service.begins.head asks.head in
        let about : query_of arrived.head.target ≡ query = ap (λ (h : Head). query_of h.target) (sym same) ∙ service.of_query in
        let wms : arrived.asked ≡ asked.Wms = asked_is asks.rest arrived.head arrived.asked asks.head asks.asks in
        page_given before.parts.history (query_of arrived.head.target) answer response about is calm
        (subst (λ a. GivesTo tapes a arrived before answer sent after) wms given).0
    page_arrived (Err (fault.Rejected r)) before after sent answer response asks given is calm = absurd (no_http_error r asks)
    page_arrived (Err fault.Memory) before after sent answer response asks given is calm = absurd (no_memory answer response is calm given.0)
    page_arrived (Err fault.NoRequest) before after sent answer response asks given is calm = absurd given
    page_arrived (Err fault.ReadFailed) before after sent answer response asks given is calm = absurd given

    pub page_responded : (before after : Node T) (sent : Vec Message A) (response : Response) → Responds tapes (Some input) before response sent after
        → response.status ≢ 503 → IsServicePage before.parts.history query response
    page_responded before after sent response responds calm =
        page_arrived responds.arrived before after sent responds.answer response responds.asks responds.gives responds.is calm

pub one_response : {T : Type 0} (A : Type 0) (tapes : Tape T) → EachQueryHasOnePage
    → EqualRequestsHaveEqualResponses A tapes
one_response A tapes theorem input query before after other other_after sent other_sent response another service one first calm second also =
    ap (λ (r : Response). response_bytes r)
    (theorem query before.parts.history other.parts.history response another one
    (page_responded input query service tapes before after sent response first calm)
    (page_responded input query service tapes other other_after other_sent another second also))
