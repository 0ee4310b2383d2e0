-- How the response ended is how the connection's writing did.
use Rattle.std.proofs.Common.{ℕ, List, Vec, take}
use Rattle.std.specs.Prelude.{Option}
use Rattle.wf_codec.specs.declared.message.Message.{Message}
use Rattle.wf_http.specs.Response.{response_bytes}
use Rattle.wf_edge.specs.RequestEffect.{IsEnding}
use Rattle.wf_edge.specs.declared.outcome.Outcome.{Outcome}
use Rattle.wf_edge.specs.declared.outcome.Outcome.TheVariants as outcome
use Rattle.wf_node.specs.Node.{Node}
use Rattle.wf_serve.specs.ConnectionEffect.{EndsWriting}
use Rattle.wf_stream.specs.declared.stream.Sink.{Ghosts as Sink}
use Rattle.wf_tape.specs.declared.tape.Tape.{Ghosts as Tape}

module _ {T A K : Type 0} (tapes : Tape T) (sinks : Sink K) where
  pub ends : (input : Option (List ℕ)) (old new : K) (before after : Node T) (sent : Vec Message A) (outputs : Outcome)
      → IsEnding tapes sinks input old new before sent after outputs → EndsWriting sinks old new outputs
  ends input old new before after sent (outcome.Sent status count) ending = tt
  ends input old new before after sent (outcome.WriteFailed status count) ending = (take ending.breaks.part (response_bytes ending.response), ending.breaks.ends)
  ends input old new before after sent outcome.ReadFailed ending = ending
  ends input old new before after sent outcome.NoRequest ending = ending
