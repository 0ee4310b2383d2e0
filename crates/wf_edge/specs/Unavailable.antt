-- Which requests may be answered with 503: those alone for which something is allocated, and a
-- publish whose step the node's tape fails. That an allocation was rejected can't be said: std's
-- contracts have no count of rejected allocations, and don't say when one succeeds.
use Rattle.std.specs.Prelude.{◌≡◌, ℕ, List, Some, Err, Vec}
use Rattle.wf_codec.specs.declared.message.Message.{Message}
use Rattle.wf_def.specs.Definition.{Definition}
use Rattle.wf_edge.specs.Request.{Request, BeginsWith, AsksForBody}
use Rattle.wf_http.specs.Response.{Response}
use Rattle.wf_edge.specs.declared.resource.RequestedResource.TheVariants.{Publish}
use Rattle.wf_node.specs.Node.{Node}
use Rattle.wf_node.specs.declared.fault.NodeFault.{NodeFault}
use Rattle.wf_edge.specs.Theorem.{AsksMapService}
use Rattle.wf_edge.specs.ErrorResponse.{error_of_result}
use Rattle.wf_edge.specs.Publish.{IsMapOf, IsProposed, IsMapfileText}
use Rattle.wf_edge.specs.RequestEffect.{Responds}
use Rattle.wf_edge.specs.declared.error_response.ErrorResponse.TheVariants.{Unavailable}
use Rattle.wf_tape.specs.declared.tape.Tape.{Ghosts as Tape}

-- the input begins with a publish of that body
pub record BeginsWithPublish (input body : List ℕ) : Type 0 where
  pub request : Request
  pub begins : BeginsWith input request
  pub bytes : ℕ
  pub asks : request.asked ≡ Publish bytes
  pub of_body : request.body ≡ body

module _ {T : Type 0} (A : Type 0) (tapes : Tape T) where
  -- the step Propose of the body's map failed: an allocation of it did, or the node's tape does, or
  -- did before
  pub record FailsToPropose (body : List ℕ) (before after : Node T) : Type 0 where
    pub map : Definition
    pub of_body : IsMapOf body map
    pub why : NodeFault
    pub step : IsProposed {A = A} tapes before map (Err why) after
    pub is : error_of_result why ≡ Unavailable

  -- A request to the map service, whose documents are allocated; a publish whose body, of at least
  -- one byte, isn't read yet; or one whose body is within the limit of a mapfile and UTF-8, so that
  -- it is read as a map; or one whose step fails.
  pub data MayBeUnavailable (input : List ℕ) (before after : Node T) : Type 0 where
    by_service : (query : List ℕ) → AsksMapService input query → MayBeUnavailable input before after
    by_body : AsksForBody input → MayBeUnavailable input before after
    by_map : (body : List ℕ) → BeginsWithPublish input body → IsMapfileText body → MayBeUnavailable input before after
    by_step : (body : List ℕ) → BeginsWithPublish input body → FailsToPropose body before after → MayBeUnavailable input before after

  -- no other request is answered with 503
  abbrev pub OnlyTheseAreUnavailable : Type 0
  OnlyTheseAreUnavailable = (input : List ℕ) (before after : Node T) (sent : Vec Message A) (response : Response) →
      Responds tapes (Some input) before response sent after → response.status ≡ 503 → MayBeUnavailable input before after
