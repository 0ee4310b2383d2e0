-- Nodes and replicas of a farm send equal bytes.
use Rattle.std.proofs.Common.{◌≡◌, ◌≢◌, ◌∙◌, ℕ, List, [], length, take, refl, sym, ap, subst}
use Rattle.std.proofs.lemmas.List.{take_at}
use Rattle.std.specs.Prelude.{Some}
use Rattle.wf_actor.specs.Farm.{Step}
use Rattle.wf_actor.specs.Responses.{AskedAlike, AtOneSequence, ForOneMap}
use Rattle.wf_def.specs.Definition.{Definition}
use Rattle.wf_edge.proofs.ServiceTheorem.{asked_is, no_http_error, one_head, page_given, page_responded}
use Rattle.wf_edge.specs.Completion.{IsErrorCompleted}
use Rattle.wf_edge.specs.ErrorResponse.{response_of}
use Rattle.wf_edge.specs.Page.{IsServiceGiven, IsServicePage, service_page}
use Rattle.wf_edge.specs.Request.{BeginsWith, IsRequestFault, Request}
use Rattle.wf_edge.specs.Theorem.{AsksMapService}
use Rattle.wf_edge.specs.declared.outcome.Outcome.{Outcome}
use Rattle.wf_edge.specs.declared.outcome.Outcome.TheVariants as outcome
use Rattle.wf_edge.specs.declared.resource.RequestedResource.TheVariants as asked
use Rattle.wf_execution.specs.Execution.{Execution, Item}
use Rattle.wf_http.specs.Head.{Head}
use Rattle.wf_http.specs.Response.{Response, response_bytes}
use Rattle.wf_http.specs.Target.{query_of}
use Rattle.wf_http.specs.declared.fault.RequestFault.{RequestFault}
use Rattle.wf_http.specs.declared.fault.RequestFault.TheVariants as fault
use Rattle.wf_model.specs.Message.{Message}
use Rattle.wf_replica.specs.Follower.{list_of, received_by}
use Rattle.wf_replica.specs.LearnedList.{learned}
use Rattle.wf_replica.specs.Service.{AsksToPublish, IsAnswered, IsInputServed, OfFault, OfPublish, OfRequest, ReplicaAnswers}
use Rattle.wf_replica_command.specs.ReplicaLoop.{follower_of}
use Rattle.wf_tape.specs.declared.tape.Tape.{Ghosts as Tape}
use Rattle.wf_wms.specs.Answer.{IsAnswerOf}
use Rattle.wf_histories.specs.Nodes.{NodeProcess}
use Rattle.wf_histories.specs.Replicas.{IsList, ListsAgree, OfNode, OfReplica, ReplicasAgree}
use Rattle.wf_histories.specs.Responses.{ByNode, ByReplica, FarmsGetEqually, WasSentByFarm, list_behind}
use Rattle.wf_histories.specs.Theorems.{AreFarm}

-- The bytes are the page that the list has for the query.
record IsPageOf (list : List Definition) (query bytes : List ℕ) : Type 0 where
  page : Response
  is : IsServicePage list query page
  all : bytes ≡ response_bytes page

-- ---- a replica's response

module _ (came query : List ℕ) (service : AsksMapService came query) (list : List Definition) (bytes : List ℕ) (status count : ℕ) (calm : status ≢ 503) where
  page_answered : (request : Request) → BeginsWith came request → IsAnswered request list [] bytes (outcome.Sent status count) → IsPageOf list query bytes
  page_answered request begins is =
      let wms : request.asked ≡ asked.Wms = asked_is came query service begins.rest request.head request.asked begins.head begins.asks in
      let given : IsServiceGiven list (query_of request.head.target) is.answer = subst (λ a. ReplicaAnswers a (query_of request.head.target) list is.answer) wms is.answers in
      let about : query_of request.head.target ≡ query = ap (λ (h : Head). query_of h.target) (sym (one_head came service.begins.rest begins.rest service.request.head request.head service.begins.head begins.head)) ∙ service.of_query in
      record {
        page = response_of is.answer;
        is = page_given came query service list (query_of request.head.target) is.answer (response_of is.answer) about refl (λ failed. calm (is.sends.1 ∙ failed)) given;
        all = is.sends.0;
      }

  none_published : AsksToPublish came → IsPageOf list query bytes
  none_published publish =
      let clash : asked.Publish publish.bytes ≡ asked.Wms = asked_is came query service publish.rest publish.head (asked.Publish publish.bytes) publish.begins publish.asks in
      cc

  none_failed : (why : RequestFault) → IsRequestFault came why → (completion : Outcome) → outcome.Sent status count ≡ completion → IsErrorCompleted why (Some []) (Some bytes) completion → IsPageOf list query bytes
  none_failed (fault.Rejected r) is completion same written = absurd (no_http_error came query service r is)
  none_failed fault.Memory is completion same written = absurd (calm ((subst (λ c. IsErrorCompleted fault.Memory (Some []) (Some bytes) c) (sym same) written).1))
  none_failed fault.NoRequest is completion same written = let clash : outcome.Sent status count ≡ outcome.NoRequest = same ∙ written.0 in cc
  none_failed fault.ReadFailed is completion same written = let clash : outcome.Sent status count ≡ outcome.ReadFailed = same ∙ written.0 in cc

  page_served : IsInputServed came list [] bytes (outcome.Sent status count) → IsPageOf list query bytes
  page_served (OfRequest request begins is) = page_answered request begins is
  page_served (OfPublish publish is) = none_published publish
  page_served (OfFault why is written) = none_failed why is (outcome.Sent status count) refl written

-- ---- of a farm

module _ {N R : Type 0} (tapes : Tape N) (shelves : Tape R) (n : ℕ) (before : ℕ → Execution N) (earlier : List Item) (folders : ℕ → List (NodeProcess tapes)) (steps : List Step)
    (are : AreFarm tapes n before earlier folders steps) where
  abbrev IsOfFarm : List Definition → Type 0
  IsOfFarm list = IsList tapes shelves n before earlier folders steps are list

  page_sent : (came query response : List ℕ) → AsksMapService came query → (client : WasSentByFarm tapes shelves n before earlier folders steps are came response)
      → IsPageOf (list_behind tapes shelves n before earlier folders steps are came response client) query response
  page_sent came query response service (ByNode sent) =
      let is = sent.answer.is_outcome in
      record { page = is.response; is = page_responded came query service tapes sent.process.actor.node sent.after.actor.node sent.answer.outputs is.response is.responds (λ failed. sent.answers (is.status_is ∙ failed)); all = is.written }
  page_sent came query response service (ByReplica sent) = page_served came query service (list_of sent.replica) response sent.status sent.count sent.answers sent.written

  list_sent : (came response : List ℕ) (client : WasSentByFarm tapes shelves n before earlier folders steps are came response) → IsOfFarm (list_behind tapes shelves n before earlier folders steps are came response client)
  list_sent came response (ByNode sent) = OfNode sent.process.actor.node.parts.history sent.process.actor.node sent.ever refl
  list_sent came response (ByReplica sent) =
      let present : List (Message Definition) = received_by (follower_of sent.served.event_loop) in
      let past : List (Message Definition) = received_by sent.replica in
      OfReplica (list_of sent.replica) sent.served (length past) sent.reported
      (sym sent.lived ∙ ap (learned []) (sym (take_at past sent.goes_on.received.0 (length past) refl) ∙ ap (take (length past)) (sym sent.goes_on.received.1)))

  module _ (agree : ListsAgree tapes shelves n before earlier folders steps are) where
    pages_alike : (list other : List Definition) (query : List ℕ) (page another : Response) → IsOfFarm list → IsOfFarm other → AskedAlike query list other → IsServicePage list query page → IsServicePage other query another → another ≡ page
    pages_alike list other query page another is also (AtOneSequence long) first second =
        second.is_page
        ∙ ap service_page (agree.answer list other is also (length list) query first.answer second.answer refl long first.is_answer (subst (λ s. IsAnswerOf s other query second.answer) long second.is_answer))
        ∙ sym first.is_page
    pages_alike list other query page another is also (ForOneMap m asks asks_too) first second =
        second.is_page
        ∙ ap service_page (agree.map list other is also (length list) (length other) m query first.answer second.answer asks asks_too refl refl first.is_answer second.is_answer)
        ∙ sym first.is_page

    bytes_alike : (list other : List Definition) (query bytes more : List ℕ) → IsOfFarm list → IsOfFarm other → AskedAlike query list other → IsPageOf list query bytes → IsPageOf other query more → more ≡ bytes
    bytes_alike list other query bytes more is also alike first second = second.all ∙ ap response_bytes (pages_alike list other query first.page second.page is also alike first.is second.is) ∙ sym first.all

pub farms_get_equally : {N R : Type 0} (tapes : Tape N) (shelves : Tape R) → ReplicasAgree tapes shelves → FarmsGetEqually tapes shelves
farms_get_equally tapes shelves agree = λ n before earlier folders steps are came query response another one two service alike.
    bytes_alike tapes shelves n before earlier folders steps are (agree n before earlier folders steps are)
    (list_behind tapes shelves n before earlier folders steps are came response one) (list_behind tapes shelves n before earlier folders steps are came another two) query response another
    (list_sent tapes shelves n before earlier folders steps are came response one) (list_sent tapes shelves n before earlier folders steps are came another two) alike
    (page_sent tapes shelves n before earlier folders steps are came query response service one) (page_sent tapes shelves n before earlier folders steps are came query another service two)
