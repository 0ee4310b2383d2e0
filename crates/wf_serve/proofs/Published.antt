-- What an accepted publish does: the node proposed the map, and all nodes published it.
use Rattle.std.proofs.Common.{◌≡◌, ◌<◌, ℕ, false, List, length, length-set, slice_set, Option, Result, Ok, Err, Vec, sym, ap, subst, ◌∙◌, arith, inl, inr}
use Rattle.std.specs.Prelude.{IfSome, if◌then◌else◌}
use Rattle.std.specs.declared.alloc.Global.{Global}
use Rattle.wf_codec.specs.declared.message.Message.{Message}
use Rattle.wf_def.specs.Definition.{Definition}
use Rattle.wf_edge.specs.ErrorResponse.{error_of_result, response_of, status_of, http_error_status}
use Rattle.wf_edge.specs.Page.{IsServiceGiven}
use Rattle.wf_edge.specs.Publish.{IsMapOf, IsProposed, IsPublished, ReportsFault}
use Rattle.wf_edge.specs.RequestEffect.{HasRequest, GivesReply, GivesTo, IsOutcome, Responds, ReportsPublish}
use Rattle.wf_edge.specs.declared.error_response.ErrorResponse.{ErrorResponse}
use Rattle.wf_edge.specs.declared.error_response.ErrorResponse.TheVariants as error_response
use Rattle.wf_edge.specs.declared.outcome.Outcome.{Outcome}
use Rattle.wf_edge.specs.declared.outcome.Outcome.TheVariants as outcome
use Rattle.wf_edge.specs.declared.publish_fault.PublishFault.{PublishFault}
use Rattle.wf_edge.specs.declared.publish_fault.PublishFault.TheVariants as publish
use Rattle.wf_catch_up.specs.CatchUp.{LevelRests, StandLevel}
use Rattle.wf_delivery.specs.Delivery.{AreHandedOut, StandInTurn}
use Rattle.wf_delivery.specs.Reachability.{AreFresh}
use Rattle.wf_delivery.specs.Publication.{AllPublish, PublishedOnAll, Rests}
use Rattle.wf_delivery.specs.Delivery.{NoneHalted}
use Rattle.wf_edge.specs.Request.{Request, BeginsWith}
use Rattle.wf_http.specs.Response.{Response}
use Rattle.wf_http.specs.Target.{query_of}
use Rattle.wf_http.specs.declared.fault.RequestFault.{RequestFault}
use Rattle.wf_http.specs.declared.fault.RequestFault.TheVariants as fault
use Rattle.wf_http.specs.declared.http_error.HttpError.{HttpError}
use Rattle.wf_http.specs.declared.http_error.HttpError.TheVariants as rejection
use Rattle.wf_edge.specs.declared.resource.RequestedResource.{RequestedResource}
use Rattle.wf_edge.specs.declared.resource.RequestedResource.TheVariants as asked
use Rattle.wf_model.specs.VolatileState as model
use Rattle.wf_node.specs.Node.{Node, volatile_of}
use Rattle.wf_proposer.specs.ProposalState.{proposal_state_of}
use Rattle.wf_proposer.specs.declared.proposal_state.ProposalState.TheVariants as proposal_state
use Rattle.wf_serve.specs.Publication.{WasAccepted, HavePublishedTheMap, AcceptedIsPublished, accepted_status}
use Rattle.wf_serve.specs.ConnectionEffect.{HaveCaughtUp, IsConnection, IsRetried, ProposesAt}
use Rattle.wf_tape.specs.declared.tape.Tape.{Ghosts as Tape}

-- ---- the response

-- No error response has that status.
no_rejection : (r : HttpError) → http_error_status r ≡ accepted_status → ⊥
no_rejection rejection.BadRequest is = omega (arith, is)
no_rejection rejection.NotFound is = omega (arith, is)
no_rejection (rejection.MethodNotAllowed method) is = omega (arith, is)
no_rejection rejection.LengthRequired is = omega (arith, is)
no_rejection rejection.ContentTooLarge is = omega (arith, is)
no_rejection rejection.HeadTooLarge is = omega (arith, is)
no_rejection rejection.NotImplemented is = omega (arith, is)

no_error_response : (n : ErrorResponse) → status_of n ≡ accepted_status → ⊥
no_error_response (error_response.Rejected r) is = no_rejection r is
no_error_response error_response.TooBig is = omega (arith, is)
no_error_response error_response.Busy is = omega (arith, is)
no_error_response error_response.SequenceFull is = omega (arith, is)
no_error_response error_response.RoundsFull is = omega (arith, is)
no_error_response error_response.Unavailable is = omega (arith, is)

-- the status of an answer
abbrev status_in : Result Response ErrorResponse → ℕ
status_in answer = (response_of answer).status

-- Neither the map service nor an error of a publish is answered with it.
no_service : (history : List Definition) (query : List ℕ) (answer : Result Response ErrorResponse) → IsServiceGiven history query answer → status_in answer ≡ accepted_status → ⊥
no_service history query (Ok page) given is = let other : 200 ≡ accepted_status = sym (ap (λ (p : Response). p.status) given.is_page) ∙ is in omega (arith, other)
no_service history query (Err n) given is = no_error_response n is

no_fault : (why : PublishFault) (answer : Result Response ErrorResponse) → ReportsFault why answer → status_in answer ≡ accepted_status → ⊥
no_fault (publish.Map why) answer reports is = let other : 400 ≡ accepted_status = sym (ap status_in reports) ∙ is in omega (arith, other)
no_fault publish.TooBig answer reports is = no_error_response error_response.TooBig (sym (ap status_in reports) ∙ is)
no_fault publish.Memory answer reports is = no_error_response error_response.Unavailable (sym (ap status_in reports) ∙ is)
no_fault (publish.Node why) answer reports is = no_error_response (error_of_result why) (sym (ap status_in reports) ∙ is)

module _ {T : Type 0} (tapes : Tape T) (before after : Node T) (outputs : Vec Message Global) where
  -- The node made the step Propose of the map that the body of the request means, and these are its
  -- messages.
  record HasProposed (input : Option (List ℕ)) : Type 0 where
    request : Request
    received : IfSome input (λ bytes. BeginsWith bytes request)
    map : Definition
    is_map : IsMapOf request.body map
    proposed : IsProposed tapes before map (Ok outputs) after

  proposed_if : (body : List ℕ) (answer : Result Response ErrorResponse) (done : Result (Response × Vec Message Global) PublishFault) → IsPublished tapes body before done after → ReportsPublish done answer outputs →
      status_in answer ≡ accepted_status → (d : Definition) × IsMapOf body d × IsProposed tapes before d (Ok outputs) after
  proposed_if body answer (Ok done) published reports is = (published.0, published.1, subst (λ ms. IsProposed tapes before published.0 (Ok ms) after) (sym reports.1) published.2)
  proposed_if body answer (Err why) published reports is = absurd (no_fault why answer reports.0 is)

  asked_for : (what : RequestedResource) (request : Request) (answer : Result Response ErrorResponse) → GivesTo tapes what request before answer outputs after → status_in answer ≡ accepted_status →
      (d : Definition) × IsMapOf request.body d × IsProposed tapes before d (Ok outputs) after
  asked_for asked.Wms request answer gives is = absurd (no_service before.parts.history (query_of request.head.target) answer gives.0 is)
  asked_for asked.Status request answer gives is = let other : 200 ≡ accepted_status = sym (ap status_in gives.0) ∙ is in absurd (omega (arith, other))
  asked_for (asked.Publish bytes) request answer gives is = proposed_if request.body answer gives.done gives.published gives.reports is

  arrived_as : (input : Option (List ℕ)) (arrived : Result Request RequestFault) (answer : Result Response ErrorResponse) → IfSome input (λ bytes. HasRequest bytes arrived) → GivesReply tapes arrived before answer outputs after →
      status_in answer ≡ accepted_status → HasProposed input
  arrived_as input (Ok request) answer asks gives is =
      let it = asked_for request.asked request answer gives is in
      record { request = request; received = asks; map = it.0; is_map = it.1; proposed = it.2 }
  arrived_as input (Err (fault.Rejected r)) answer asks gives is = absurd (no_error_response (error_response.Rejected r) (sym (ap status_in gives.0) ∙ is))
  arrived_as input (Err fault.Memory) answer asks gives is = absurd (no_error_response error_response.Unavailable (sym (ap status_in gives.0) ∙ is))
  arrived_as input (Err fault.NoRequest) answer asks gives is = absurd gives
  arrived_as input (Err fault.ReadFailed) answer asks gives is = absurd gives

  responded : (input : Option (List ℕ)) (response : Response) → Responds tapes input before response outputs after → response.status ≡ accepted_status → HasProposed input
  responded input response responds is = arrived_as input responds.arrived responds.answer responds.asks responds.gives (sym (ap (λ (r : Response). r.status) responds.is) ∙ is)

  -- If the response had that status, the node proposed.
  has_proposed : (input old new : Option (List ℕ)) (outcome : Outcome) → IsOutcome tapes input old new before outputs after outcome → WasAccepted outcome → HasProposed input
  has_proposed input old new (outcome.Sent status count) served is = responded input served.response served.responds (sym served.status_is ∙ is)
  has_proposed input old new (outcome.WriteFailed status count) served is = responded input served.response served.responds (sym served.status_is ∙ is)
  has_proposed input old new outcome.ReadFailed served is = absurd is
  has_proposed input old new outcome.NoRequest served is = absurd is

-- ---- the nodes

-- A proposal that rests isn't running.
rests_still : (proposing : model.Proposing Definition) → Rests proposing → proposal_state_of proposing ≡ proposal_state.Running → ⊥
rests_still model.Idle rests is = cc
rests_still (model.Running proposal) rests is = rests
rests_still (model.Won s) rests is = cc
rests_still (model.Overtaken s) rests is = cc

module _ {T : Type 0} (tapes : Tape T) (node_index : ℕ) (arrived : List (Node T)) (map : Definition) (published : AllPublish arrived map) (none : NoneHalted arrived) where
  not_running : ProposesAt node_index arrived → ⊥
  unfolding AllPublish NoneHalted
  not_running runs =
      rests_still (volatile_of runs.0).proposing (published node_index runs.0 runs.1).1
      (subst (λ b. (if b then proposal_state.None else proposal_state_of (volatile_of runs.0).proposing) ≡ proposal_state.Running) (none node_index runs.0 runs.1) runs.2)

  -- So no proposal is restarted.
  not_retried : (after : List (Node T)) → IsRetried tapes node_index arrived after → AllPublish after map
  not_retried after (inl anew) = absurd (not_running anew.runs)
  not_retried after (inr rests) = subst (λ ns. AllPublish ns map) (sym rests.1) published

-- Nodes that all have published the same stand level, so that none of them has to catch up.
published_level : {T : Type 0} (nodes : List (Node T)) (map : Definition) → AllPublish nodes map → StandLevel nodes
unfolding AllPublish StandLevel
published_level nodes map published = λ i j node other at there runs also. ap length (published i node at).0 ∙ sym (ap length (published j other there).0)

published_still : {T : Type 0} (tapes : Tape T) (nodes after : List (Node T)) (map : Definition) → LevelRests tapes → AllPublish nodes map → HaveCaughtUp tapes nodes after → AllPublish after map
published_still tapes nodes after map rests published caught = subst (λ ns. AllPublish ns map) (sym (rests nodes after caught.lost (published_level nodes map published) caught.caught)) published

module _ {T : Type 0} (tapes : Tape T) (rests : LevelRests tapes) (theorem : PublishedOnAll tapes) (node_index : ℕ) (input old new : Option (List ℕ))
    (nodes nodes_after : List (Node T)) (outcome : Outcome) (long : length nodes ≡ 3) (turns : StandInTurn nodes) (fresh : AreFresh nodes)
    (connection : IsConnection tapes node_index input old new nodes outcome nodes_after) (accepted : WasAccepted outcome) (lost : connection.receiving.lost ≡ 0) (stopped : connection.receiving.stopped ≡ false)
    (none : NoneHalted connection.arrived) where
  proposal : HasProposed tapes connection.request.before connection.request.after connection.outputs input
  proposal = has_proposed tapes connection.request.before connection.request.after connection.outputs input old new outcome connection.request.served accepted

  some : 0 < length connection.served
  some = omega (arith, ap length connection.request.changed.is, length-set nodes node_index connection.request.after, long)

  handed : AreHandedOut tapes (slice_set nodes node_index connection.request.after) connection.outputs.items connection.receiving.deliveries 0 false connection.arrived
  handed =
      subst (λ ns. AreHandedOut tapes ns connection.outputs.items connection.receiving.deliveries 0 false connection.arrived) connection.request.changed.is
      (subst (λ b. AreHandedOut tapes connection.served connection.outputs.items connection.receiving.deliveries 0 b connection.arrived) stopped
      (subst (λ k. AreHandedOut tapes connection.served connection.outputs.items connection.receiving.deliveries k connection.receiving.stopped connection.arrived) lost (connection.receiving.handed some)))

  arrived_published : AllPublish connection.arrived proposal.map
  unfolding AreFresh
  arrived_published =
      let was = connection.request.changed.was in
      (theorem nodes connection.arrived node_index connection.request.before connection.request.after proposal.map connection.outputs connection.receiving.deliveries long turns fresh was
      (proposal.proposed.steps (fresh node_index connection.request.before was).runs) handed none).1

  pub have_published : HavePublishedTheMap input nodes_after
  have_published = record {
    request = proposal.request;
    received = proposal.received;
    map = proposal.map;
    is_map = proposal.is_map;
    published =
        published_still tapes connection.retried nodes_after proposal.map rests (not_retried tapes node_index connection.arrived proposal.map arrived_published none connection.retried connection.retry) connection.catch_up;
  }

pub accepted_is_published : {T : Type 0} (tapes : Tape T) → LevelRests tapes → PublishedOnAll tapes → AcceptedIsPublished tapes
accepted_is_published tapes rests theorem = λ node_index input old new nodes nodes_after outcome long turns fresh connection accepted lost stopped none.
    have_published tapes rests theorem node_index input old new nodes nodes_after outcome long turns fresh connection accepted lost stopped none
