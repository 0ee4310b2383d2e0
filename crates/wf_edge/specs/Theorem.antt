-- Equal requests to the map service have equal responses, at any node and any time.
use Rattle.std.specs.Prelude.{◌≡◌, ◌≢◌, ℕ, List, length, Some, Vec}
use Rattle.wf_codec.specs.declared.message.Message.{Message}
use Rattle.wf_def.specs.Definition.{Definition}
use Rattle.wf_learner.specs.History.{map_at}
use Rattle.wf_node.specs.Node.{Node}
use Rattle.wf_wms.specs.Answer.{AsksForMap, rejection, subject}
use Rattle.wf_wms.specs.Rejection.{IsRejectedByText}
use Rattle.wf_wms.specs.declared.exception.Exception.{Exception}
use Rattle.wf_edge.specs.Page.{IsLastAnswer, IsServicePage}
use Rattle.wf_edge.specs.Request.{Request, BeginsWith}
use Rattle.wf_http.specs.Response.{Response, response_bytes}
use Rattle.wf_edge.specs.RequestEffect.{Responds}
use Rattle.wf_http.specs.Target.{query_of}
use Rattle.wf_edge.specs.declared.resource.RequestedResource.TheVariants.{Wms}
use Rattle.wf_tape.specs.declared.tape.Tape.{Ghosts as Tape}

-- the input begins with a request to the map service, of that query
pub record AsksMapService (input query : List ℕ) : Type 0 where
  pub request : Request
  pub begins : BeginsWith input request
  pub of_service : request.asked ≡ Wms
  pub of_query : query_of request.head.target ≡ query

-- Two nodes with these lists of published maps answer the query alike. Either both lists have the
-- same length, and the map that the query is about is the same; or the query is a GetMap request
-- for a sequence at which both have the same map, however many more there are. Or the lists may
-- differ in every way, where its text alone rejects the query, or both nodes do by the same
-- exception.
pub data AnswerAlike (query : List ℕ) (history other : List Definition) : Type 0 where
  stand_alike : length other ≡ length history → map_at history (subject (length history) query) ≡ map_at other (subject (length history) query)
      → AnswerAlike query history other
  are_asked_alike : (m : ℕ) → AsksForMap m (length history) query → AsksForMap m (length other) query → map_at history m ≡ map_at other m
      → AnswerAlike query history other
  is_rejected_by_text : (e : Exception) → IsRejectedByText query e → AnswerAlike query history other
  reject_alike : (e : Exception) → IsLastAnswer history query (rejection e) → IsLastAnswer other query (rejection e)
      → AnswerAlike query history other

-- Then it has exactly one page at both.
abbrev pub EachQueryHasOnePage : Type 0
EachQueryHasOnePage = (query : List ℕ) (history other : List Definition) (page another : Response) → AnswerAlike query history other →
    IsServicePage history query page → IsServicePage other query another → another ≡ page

module _ {T : Type 0} (A : Type 0) (tapes : Tape T) where
  -- Two nodes, or one node at two times, that receive equal requests to the map service and answer
  -- them alike, respond with equal bytes, if neither responds with allocation failure.
  abbrev pub EqualRequestsHaveEqualResponses : Type 0
  EqualRequestsHaveEqualResponses = (input query : List ℕ) (before after other other_after : Node T) (sent other_sent : Vec Message A) (response another : Response) →
      AsksMapService input query → AnswerAlike query before.parts.history other.parts.history →
      Responds tapes (Some input) before response sent after → response.status ≢ 503 →
      Responds tapes (Some input) other another other_sent other_after → another.status ≢ 503 →
      response_bytes another ≡ response_bytes response
