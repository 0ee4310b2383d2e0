-- Sessions that are one farm agree, go on and answer alike.
use Rattle.std.proofs.Common.{◌≡◌, ◌≢◌, ℕ, List, length, Option, Result, Ok, Err, Vec, refl, sym, ap, subst, ◌∙◌, arith}
use Rattle.std.specs.declared.alloc.Global.{Global}
use Rattle.wf_execution.specs.Theorems as execution
use Rattle.wf_codec.specs.declared.message.Message.{Message}
use Rattle.wf_def.specs.Definition.{Definition}
use Rattle.wf_edge.specs.ErrorResponse.{response_of}
use Rattle.wf_edge.specs.Page.{IsServiceGiven, IsServicePage, service_page}
use Rattle.wf_edge.specs.Request.{Request}
use Rattle.wf_edge.specs.RequestEffect.{GivesReply, GivesTo, IsOutcome}
use Rattle.wf_edge.specs.declared.error_response.ErrorResponse.{ErrorResponse}
use Rattle.wf_edge.specs.declared.outcome.Outcome.{Outcome}
use Rattle.wf_edge.specs.declared.outcome.Outcome.TheVariants as outcome
use Rattle.wf_edge.specs.declared.resource.RequestedResource.{RequestedResource}
use Rattle.wf_edge.specs.declared.resource.RequestedResource.TheVariants.{Wms}
use Rattle.wf_http.specs.Response.{Response, response_bytes}
use Rattle.wf_http.specs.Target.{query_of}
use Rattle.wf_http.specs.declared.fault.RequestFault.{RequestFault}
use Rattle.wf_node.specs.Node.{Node}
use Rattle.wf_wms.specs.Answer.{IsAnswerOf}
use Rattle.wf_tape.specs.declared.tape.Tape.{Ghosts as Tape}
use Rattle.wf_serve.specs.Agreement.{AskedAlike, AtOneSequence, ForOneMap}
use Rattle.wf_runs.specs.Session.{NodeSession}
use Rattle.wf_runs.specs.Folder.{WasOnce}
use Rattle.wf_runs.specs.Theorems.{IsOneFarm, FolderIsOneFarm, HasOneHistory, HaveOneDefinition, NoneGoesBack, IsQueryTo, NodeHasResponded, IsReplyToQuery, RespondAlike, GetAlike, SessionsAreOneFarm}

-- ---- the page of a query

module _ {T : Type 0} (tapes : Tape T) where
  -- the reply to a request to the map service is its page, unless an allocation failed
  page_of_service : (history : List Definition) (query : List ℕ) (answer : Result Response ErrorResponse) → IsServiceGiven history query answer → (response_of answer).status ≢ 503 → IsServicePage history query (response_of answer)
  page_of_service history query (Ok page) is fine = is
  page_of_service history query (Err why) is fine = absurd (fine (ap (λ w. (response_of (Err w)).status) is))

  page_by : (asked : RequestedResource) (request : Request) (node after : Node T) (answer : Result Response ErrorResponse) (sent : Vec Message Global) (query : List ℕ) → asked ≡ Wms → query_of request.head.target ≡ query →
      GivesTo tapes asked request node answer sent after → (response_of answer).status ≢ 503 → IsServicePage node.parts.history query (response_of answer)
  page_by asked request node after answer sent query service same gives fine =
      let given : GivesTo tapes Wms request node answer sent after = subst (λ a. GivesTo tapes a request node answer sent after) service gives in
      subst (λ q. IsServicePage node.parts.history q (response_of answer)) same (page_of_service node.parts.history (query_of request.head.target) answer given.0 fine)

  page_arrived : (arrived : Result Request RequestFault) (node after : Node T) (answer : Result Response ErrorResponse) (sent : Vec Message Global) (query : List ℕ) → IsQueryTo arrived query →
      GivesReply tapes arrived node answer sent after → (response_of answer).status ≢ 503 → IsServicePage node.parts.history query (response_of answer)
  page_arrived (Ok request) node after answer sent query asks gives fine = page_by request.asked request node after answer sent query asks.0 asks.1 gives fine
  page_arrived (Err why) node after answer sent query asks gives fine = absurd asks

  page_responded : (node : Node T) (query : List ℕ) (response : Response) → NodeHasResponded tapes node query response → response.status ≢ 503 → IsServicePage node.parts.history query response
  page_responded node query response has fine =
      let r = has.responds in
      subst (IsServicePage node.parts.history query) (sym r.is)
      (page_arrived r.arrived node has.after r.answer has.sent query has.asked r.gives (λ e. fine (ap (λ (x : Response). x.status) r.is ∙ e)))

-- ---- what a connection was answered with

module _ {T : Type 0} (tapes : Tape T) where
  responded : (input old new : Option (List ℕ)) (before after : Node T) (outputs : Vec Message Global) (got : Outcome) (is : IsOutcome tapes input old new before outputs after got) (query : List ℕ) (response : Response) →
      IsReplyToQuery tapes input old new before after outputs got is query response → NodeHasResponded tapes before query response
  responded input old new before after outputs (outcome.Sent status count) is query response reply =
      subst (NodeHasResponded tapes before query) reply.0 (record { input = input; sent = outputs; after = after; responds = is.responds; asked = reply.1 })
  responded input old new before after outputs (outcome.WriteFailed status count) is query response reply =
      subst (NodeHasResponded tapes before query) reply.0 (record { input = input; sent = outputs; after = after; responds = is.responds; asked = reply.1 })
  responded input old new before after outputs outcome.ReadFailed is query response reply = absurd reply
  responded input old new before after outputs outcome.NoRequest is query response reply = absurd reply

-- ---- the theorems

module _ {T : Type 0} (tapes : Tape T) (n : ℕ) (sessions : List (NodeSession T)) (is : IsOneFarm tapes n sessions) where
  held : (node : Node T) → WasOnce sessions node → execution.IsHeld n is.executions node
  held node h =
      let same = is.order h.moment h.moment h.node_index node node (omega arith) h.at h.at in
      record { process = h.node_index; is_member = same.is_member; moment = same.moment; at = same.at }

  history : execution.OneHistory tapes → HasOneHistory sessions
  history theorem =
      let so = theorem n is.executions is.items is.farm in
      record { history = so.history; each = λ node h. so.each node (held node h) }

  definition : execution.OneDefinition tapes → HaveOneDefinition sessions
  unfolding HaveOneDefinition
  definition theorem = λ node other h also s c d at there. theorem n is.executions is.items is.farm node other (held node h) (held other also) s c d at there

  grow : execution.ListsGrow tapes → NoneGoesBack sessions
  unfolding NoneGoesBack
  grow theorem = λ k l i node next order at then.
      let so = is.order k l i node next order at then in
      theorem n i (is.executions i) so.moment so.later node next (is.farm.each i so.is_member) so.order so.at so.then

  module _ (one : execution.OneAnswer tapes) (one_map : execution.OneMapAnswer tapes) where
    pages_alike : (node other : Node T) (query : List ℕ) (page another : Response) → WasOnce sessions node → WasOnce sessions other → AskedAlike query node.parts.history other.parts.history →
        IsServicePage node.parts.history query page → IsServicePage other.parts.history query another → another ≡ page
    pages_alike node other query page another h also (AtOneSequence long) is_page is_other =
        let same = one n is.executions is.items is.farm node other (held node h) (held other also) (length node.parts.history) query is_page.answer is_other.answer refl long
        is_page.is_answer (subst (λ s. IsAnswerOf s other.parts.history query is_other.answer) long is_other.is_answer) in
        is_other.is_page ∙ ap service_page same ∙ sym is_page.is_page
    pages_alike node other query page another h also (ForOneMap m asks asks_too) is_page is_other =
        let same = one_map n is.executions is.items is.farm node other (held node h) (held other also) (length node.parts.history) (length other.parts.history) m query is_page.answer is_other.answer asks asks_too refl refl
        is_page.is_answer is_other.is_answer in
        is_other.is_page ∙ ap service_page same ∙ sym is_page.is_page

    respond : RespondAlike tapes sessions
    unfolding RespondAlike
    respond = λ node other query response another h also alike has has_too fine fine_too.
        ap response_bytes (pages_alike node other query response another h also alike (page_responded tapes node query response has fine) (page_responded tapes other query another has_too fine_too))

    get : GetAlike tapes sessions
    unfolding GetAlike RespondAlike
    get = λ k l nodes others query response another at then one two alike fine fine_too.
        let before = one.connection.before in
        let other = two.connection.before in
        let h : WasOnce sessions before = record { moment = k; node_index = one.node_index; at = record { nodes = nodes; then = at; there = one.connection.changed.was } } in
        let also : WasOnce sessions other = record { moment = l; node_index = two.node_index; at = record { nodes = others; then = then; there = two.connection.changed.was } } in
        respond before other query response another h also alike
        (responded tapes one.input one.old one.new before one.connection.after one.outputs one.outcome one.connection.served query response one.reply)
        (responded tapes two.input two.old two.new other two.connection.after two.outputs two.outcome two.connection.served query another two.reply) fine fine_too

pub sessions_agree : {T : Type 0} (tapes : Tape T) → FolderIsOneFarm tapes → execution.OneHistory tapes → execution.OneDefinition tapes → execution.ListsGrow tapes → execution.OneAnswer tapes → execution.OneMapAnswer tapes → SessionsAreOneFarm tapes
sessions_agree tapes farms histories definitions grows answers maps = λ n sessions folder.
    let is = farms n sessions folder in
    record {
      history = history tapes n sessions is histories;
      definition = definition tapes n sessions is definitions;
      grow = grow tapes n sessions is grows;
      respond = respond tapes n sessions is answers maps;
      get = get tapes n sessions is answers maps;
    }
