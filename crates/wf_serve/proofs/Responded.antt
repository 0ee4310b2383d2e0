-- From what was read and the response to it to the request that was served.
use Rattle.std.proofs.Common.{◌≡◌, ℕ, List, [], Vec, refl, sym, ap, inl, inr}
use Rattle.std.specs.Prelude.{slice_get, Some, Result, Ok, Err, IfOk, IfErr, IfSome}
use Rattle.std.specs.declared.alloc.Global.{Global}
use Rattle.wf_codec.specs.declared.message.Message.{Message}
use Rattle.wf_edge.specs.ResponseEndTheorems.{fault_serves, read_serves}
use Rattle.wf_edge.specs.Receipt.{CountsReceiving}
use Rattle.wf_edge.specs.Page.{status_at}
use Rattle.wf_edge.specs.Request.{BeginsWith, IsRequestFault, Request}
use Rattle.wf_edge.specs.Completion.{CountsCompleting}
use Rattle.wf_edge.specs.RequestEffect.{Serves}
use Rattle.wf_edge.specs.RequestEffectTheorems.{read_served}
use Rattle.wf_delivery.specs.IndexTheorems.{set_same}
use Rattle.wf_delivery.specs.declared.delivery.Pumped.{Pumped}
use Rattle.wf_http.specs.Front.{CountsReads}
use Rattle.wf_http.specs.declared.fault.RequestFault.{RequestFault}
use Rattle.wf_node.specs.Node.{Node}
use Rattle.wf_serve.specs.ConnectionEffect.{EndsWriting, IsServedAndArrived}
use Rattle.wf_serve.specs.NodeRequest.{IsAnsweredAt, IsReadAt, IsRequestRejected, IsReplyToRequest, IsResponseToRead, no_deliveries}
use Rattle.wf_serve.specs.declared.connection_effect.ConnectionOutcome.{ConnectionOutcome}
use Rattle.wf_serve.proofs.Ended.{ends}
use Rattle.wf_serve.proofs.Exchanged.{nothing_arrived}
use Rattle.wf_stream.specs.declared.stream.Sink.{Ghosts as Sink}
use Rattle.wf_stream.specs.declared.stream.Source.{Ghosts as Source}
use Rattle.wf_tape.specs.declared.tape.Tape.{Ghosts as Tape}

module _ {T K S : Type 0} (tapes : Tape T) (sinks : Sink K) (sources : Source S) (node_index : ℕ) (source source_after : S) (sink sink_after : K) (nodes nodes_after : List (Node T)) (outcome : ConnectionOutcome) where
  -- A request was served by the node at the index, whether or not it is one; how reading and
  -- writing ended.
  pub record IsServedWhole : Type 0 where
    pub served : IsServedAndArrived tapes node_index (sources.left source) (sinks.written sink) (sinks.written sink_after) nodes outcome.request nodes_after
    pub reads : CountsReceiving outcome.request (sources.failures source) (sources.failures source_after)
    pub writes : CountsCompleting outcome.request (sinks.failures sink) (sinks.failures sink_after)
    pub last : EndsWriting sinks sink sink_after outcome.request
    pub lost : served.receiving.lost ≡ outcome.deliveries.lost
    pub stopped : served.receiving.stopped ≡ outcome.deliveries.stopped

  -- of an answer whose messages were delivered
  answered_whole : (request : Request) → IfSome (sources.left source) (λ input. BeginsWith input request) → sources.failures source_after ≡ sources.failures source →
      IsAnsweredAt tapes sinks node_index request sink sink_after nodes outcome.request outcome.deliveries nodes_after → IsServedWhole
  answered_whole request begins calm is =
      let serves = read_serves sources sinks tapes source source_after sink sink sink_after request is.before is.after is.outputs outcome.request begins refl calm is.served in
      record {
        served = record {
          outputs = is.outputs;
          served = is.answered;
          request = record { before = is.before; after = is.after; changed = is.changed; served = serves.outcome; moves = serves.moves };
          receiving = is.receiving;
        };
        reads = serves.reads;
        writes = serves.writes;
        last = ends tapes sinks (sources.left source) sink sink_after is.before is.after is.outputs outcome.request serves.last;
        lost = is.lost;
        stopped = is.stopped;
      }

  module _ (none : Vec Message Global) (silent : none.items ≡ []) where
    -- of a node that is unchanged, and sent nothing
    still_whole : (node : Node T) → slice_get nodes node_index ≡ Some node → outcome.deliveries ≡ no_deliveries → nodes_after ≡ nodes →
        Serves tapes sinks sources source source_after sink sink_after node none node outcome.request → IsServedWhole
    unfolding nothing_arrived
    still_whole node at quiet same serves = record {
      served = record {
        outputs = none;
        served = nodes;
        request = record { before = node; after = node; changed = record { was = at; is = sym (set_same nodes node_index node at) }; served = serves.outcome; moves = serves.moves };
        receiving = nothing_arrived tapes nodes nodes_after none silent same;
      };
      reads = serves.reads;
      writes = serves.writes;
      last = ends tapes sinks (sources.left source) sink sink_after node node none outcome.request serves.last;
      lost = sym (ap (λ (p : Pumped). p.lost) quiet);
      stopped = sym (ap (λ (p : Pumped). p.stopped) quiet);
    }

    read_whole : (request : Request) → IfSome (sources.left source) (λ input. BeginsWith input request) → sources.failures source_after ≡ sources.failures source →
        outcome.deliveries ≡ no_deliveries → nodes_after ≡ nodes → IsReadAt tapes sinks node_index request sink sink_after nodes outcome.request → IsServedWhole
    read_whole request begins calm quiet same is =
        still_whole is.node is.at quiet same
        (read_serves sources sinks tapes source source_after sink sink sink_after request is.node is.node none outcome.request begins refl calm
        (read_served tapes sinks request sink sink_after is.node is.node.parts.history (status_at is.node) outcome.request refl refl is.read none silent))

    replied_whole : (request : Request) → IfSome (sources.left source) (λ input. BeginsWith input request) → sources.failures source_after ≡ sources.failures source →
        IsReplyToRequest tapes sinks node_index request sink sink_after nodes outcome nodes_after → IsServedWhole
    replied_whole request begins calm (inl read) = read_whole request begins calm read.1 read.2 read.0
    replied_whole request begins calm (inr answered) = answered_whole request begins calm answered

    rejected_whole : (node : Node T) → slice_get nodes node_index ≡ Some node → (why : RequestFault) → IfSome (sources.left source) (λ input. IsRequestFault input why) →
        CountsReads {T = Request} (Err why) (sources.failures source) (sources.failures source_after) → IsRequestRejected tapes sinks why sink sink_after nodes outcome nodes_after → IsServedWhole
    rejected_whole node at why is reads rejected =
        still_whole node at rejected.quiet rejected.same
        (fault_serves sources sinks tapes source source_after sink sink_after node why outcome.request is reads rejected.outputs rejected.writes rejected.last none silent)

    pub served_whole : (node : Node T) → slice_get nodes node_index ≡ Some node → (arrived : Result Request RequestFault) →
        IfOk arrived (λ request. IfSome (sources.left source) (λ input. BeginsWith input request)) → IfErr arrived (λ why. IfSome (sources.left source) (λ input. IsRequestFault input why)) →
        CountsReads arrived (sources.failures source) (sources.failures source_after) → IsResponseToRead tapes sinks node_index arrived sink sink_after nodes outcome nodes_after → IsServedWhole
    served_whole node at (Ok request) begins fault reads responds = replied_whole request begins reads responds
    served_whole node at (Err why) begins fault reads responds = rejected_whole node at why fault reads responds
