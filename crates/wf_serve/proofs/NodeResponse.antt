-- The response of a node to a request that only reads, from what it has published.
use Rattle.std.proofs.Common.{◌≡◌, ◌∙◌, ◌⊎◌, ℕ, List, refl, sym, subst, subst₂, inl, inr}
use Rattle.std.specs.Prelude.{slice_get, Some, Result, Ok}
use Rattle.std.proofs.lemmas.Option.{same_Some}
use Rattle.wf_def.specs.Definition.{Definition}
use Rattle.wf_edge.specs.Page.{status_at}
use Rattle.wf_edge.specs.Request.{Request}
use Rattle.wf_edge.specs.RequestEffect.{IsReadAnswered, IsReading}
use Rattle.wf_edge.specs.declared.outcome.Outcome.{Outcome}
use Rattle.wf_edge.specs.declared.resource.RequestedResource.{RequestedResource}
use Rattle.wf_edge.specs.declared.resource.RequestedResource.TheVariants.{Status, Wms}
use Rattle.wf_edge.specs.declared.status.Status as status
use Rattle.wf_http.specs.declared.fault.RequestFault.{RequestFault}
use Rattle.wf_node.specs.Node.{Node}
use Rattle.wf_serve.specs.CacheSet.{IsCachedAt}
use Rattle.wf_serve.specs.NodeRequest.{IsResponseToRead, no_deliveries}
use Rattle.wf_serve.specs.declared.connection_effect.ConnectionOutcome.{ConnectionOutcome}
use Rattle.wf_stream.specs.declared.stream.Sink.{Ghosts as Sink}
use Rattle.wf_tape.specs.declared.tape.Tape.{Ghosts as Tape}
use Rattle.wf_wms.specs.CachedPictures.{AllCached, CacheValue}

pub only_reads : (asked shown : RequestedResource) → shown ≡ asked → (shown ≡ Wms) ⊎ (shown ≡ Status) → IsReading asked
only_reads asked shown is (inl wms) = subst (λ (a : RequestedResource). IsReading a) (sym wms ∙ is) tt
only_reads asked shown is (inr status) = subst (λ (a : RequestedResource). IsReading a) (sym status ∙ is) tt

-- a node that is read keeps its cache valid
pub still_cached : {T : Type 0} (nodes : List (Node T)) (node_index : ℕ) (node : Node T) (history : List Definition) (cache : CacheValue) →
    slice_get nodes node_index ≡ Some node → history ≡ node.parts.history → AllCached history cache → IsCachedAt nodes node_index cache
still_cached {T} nodes node_index node history cache at same cached = λ other there.
    subst (λ (n : Node T). AllCached n.parts.history cache) (same_Some node other (sym at ∙ there))
    (subst (λ (h : List Definition). AllCached h cache) same cached)

pub read_response : {T K : Type 0} (tapes : Tape T) (sinks : Sink K) (node_index : ℕ) (arrived : Result Request RequestFault) (sink sink_after : K) (nodes : List (Node T)) (outcome : ConnectionOutcome)
    (request : Request) (node : Node T) (history : List Definition) (shown : status.Status) (answer : Outcome) →
    arrived ≡ Ok request → slice_get nodes node_index ≡ Some node → history ≡ node.parts.history → shown ≡ status_at node → IsReadAnswered sinks request history shown sink sink_after answer →
    outcome.request ≡ answer → outcome.deliveries ≡ no_deliveries → IsResponseToRead tapes sinks node_index arrived sink sink_after nodes outcome nodes
read_response tapes sinks node_index arrived sink sink_after nodes outcome request node history shown answer received at same_history same_status read is quiet =
    subst (λ (a : Result Request RequestFault). IsResponseToRead tapes sinks node_index a sink sink_after nodes outcome nodes) (sym received)
    (inl (
      record {
        node = node;
        at = at;
        read = subst (λ (o : Outcome). IsReadAnswered sinks request node.parts.history (status_at node) sink sink_after o) (sym is)
            (subst₂ (λ h s. IsReadAnswered sinks request h s sink sink_after answer) same_history same_status read);
      },
      quiet,
      refl,
    ))
