-- What two ends did, as a connection tells of it.
use Rattle.std.proofs.Common.{◌≡◌, ◌<◌, ◌+◌, ◌⊎◌, ℕ, List, ◌++◌, length, take, inl, inr, arith}
use Rattle.std.specs.Prelude.{Option, Result, Ok, Err, IfOk, OnOk}
use Rattle.std.proofs.lemmas.List.{length-append}
use Rattle.std.specs.Io.KnownBytes.{Appends, Consumes}
use Rattle.wf_codec.specs.Message.{view}
use Rattle.wf_codec.specs.Encoding.{spelling}
use Rattle.wf_codec.specs.declared.message.Message as code
use Rattle.wf_def.specs.Definition.{Definition}
use Rattle.wf_farm.specs.declared.carrier.CarrierFault.{CarrierFault}
use Rattle.wf_model.specs.Message.{Message}
use Rattle.wf_stream.specs.KnownTheorems.{consumes_more}
use Rattle.wf_stream.specs.declared.stream.Sink.{Ghosts as Sink}
use Rattle.wf_stream.specs.declared.stream.Source.{Ghosts as Source}
use Rattle.wf_link.specs.Cause.{IsLost}
use Rattle.wf_link.specs.Connection.{CameMore, HasCrossed, HasSent, IsNotOver, WasLost}
use Rattle.wf_link.specs.MessageCrossing.{ComesOut, NoneComesOut}

module _ {K S : Type 0} (sinks : Sink K) (sources : Source S) where
  pub has_crossed : (sent : Message Definition) (r : Result code.Message CarrierFault) (sink sink_after : K) (source source_after : S) → OnOk r (Appends (sinks.written sink) (sinks.written sink_after) (spelling sent))
      → IfOk r (λ arrived. ComesOut sent (sources.left source) (sources.left source_after) (view arrived)) → IfOk r (λ arrived. HasCrossed sinks sources sent (view arrived))
  has_crossed sent (Ok arrived) sink sink_after source source_after written came =
      record { sends = record { sink = sink; sink_after = sink_after; written = written }; source = source; source_after = source_after; came = came }
  has_crossed sent (Err fault) sink sink_after source source_after written came = tt

  pub was_lost : (size : ℕ) (is : List ℕ → Type 0) (sink sink_after : K) (source source_after : S) → IsLost sinks sources size is sink sink_after source source_after → WasLost sinks sources size is
  was_lost size is sink sink_after source source_after lost = record { sink = sink; sink_after = sink_after; source = source; source_after = source_after; lost = lost }

  -- where the bytes came, and then not the end
  pub lost_behind : (sent : List ℕ) (is : List ℕ → Type 0) (sink : K) (source between source_after : S) → NoneComesOut sent (sources.left source) (sources.left between)
      → IsNotOver (sources.failures between) (sources.failures source_after) (sources.left between) (sources.left source_after) → WasLost sinks sources (length sent) is ⊎ CameMore sources (length sent)
  lost_behind sent is sink source between source_after (rest, out) (inl rises) = inl (record { sink = sink; sink_after = sink; source = between; source_after = source_after; lost = inr (inl rises) })
  lost_behind sent is sink source between source_after (rest, out) (inr (bytes, some, consumed)) =
      let sum : length (out.bytes ++ bytes) ≡ length out.bytes + length bytes = length-append out.bytes bytes in
      let more : length sent < length (out.bytes ++ bytes) = omega (arith, sum, out.as_long, some) in
      inr (record {
        source = source;
        source_after = source_after;
        bytes = out.bytes ++ bytes;
        more = more;
        taken = consumes_more (sources.left source) (sources.left between) (sources.left source_after) out.bytes bytes out.taken consumed;
      })

pub has_sent : {K : Type 0} (sinks : Sink K) (bytes : List ℕ) (sink sink_after : K) → Appends (sinks.written sink) (sinks.written sink_after) bytes → HasSent sinks bytes
has_sent sinks bytes sink sink_after written = record { sink = sink; sink_after = sink_after; written = written }

-- bytes that were read
pub some_left : (failures failures_after count : ℕ) (buf : List ℕ) (left left_after : Option (List ℕ)) → 0 < count → count ≡ length (take count buf) → Consumes left left_after (take count buf)
    → IsNotOver failures failures_after left left_after
some_left failures failures_after count buf left left_after some long consumed =
    let more : 0 < length (take count buf) = omega (arith, long, some) in
    inr (take count buf, more, consumed)
