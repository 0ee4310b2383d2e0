-- Where no response was written, nothing was.
use Rattle.std.proofs.Common.{List, ℕ, sym, subst}
use Rattle.std.specs.Prelude.{Option}
use Rattle.wf_client.specs.ResponseBuffer.{Outgoing}
use Rattle.wf_edge.specs.ResponseEnd.{IsEnded, IsFaultEnded}
use Rattle.wf_edge.specs.Completion.{IsCompleted}
use Rattle.wf_edge.specs.declared.outcome.Outcome.{Outcome}
use Rattle.wf_edge.specs.declared.outcome.Outcome.TheVariants as outcome
use Rattle.wf_http.specs.Response.{Response}
use Rattle.wf_http.specs.declared.fault.RequestFault.{RequestFault}
use Rattle.wf_http.specs.declared.fault.RequestFault.TheVariants as fault
use Rattle.wf_replica.specs.Service.{IsUnsent}
use Rattle.wf_stream.specs.declared.stream.Sink.{Ghosts as Sink}

pub completion_unsent : (response : Response) (old new : Option (List ℕ)) (completion : Outcome) (before after : Outgoing) → IsCompleted response old new completion → IsUnsent completion before after
completion_unsent response old new (outcome.Sent status count) before after is = tt
completion_unsent response old new (outcome.WriteFailed status count) before after is = tt
completion_unsent response old new outcome.ReadFailed before after is = absurd is
completion_unsent response old new outcome.NoRequest before after is = absurd is

pub ended_unsent : (sinks : Sink Outgoing) (response : Response) (before after : Outgoing) (completion : Outcome) → IsEnded sinks response before after completion → IsUnsent completion before after
ended_unsent sinks response before after (outcome.Sent status count) is = tt
ended_unsent sinks response before after (outcome.WriteFailed status count) is = tt
ended_unsent sinks response before after outcome.ReadFailed is = absurd is
ended_unsent sinks response before after outcome.NoRequest is = absurd is

pub fault_unsent : (sinks : Sink Outgoing) (why : RequestFault) (before after : Outgoing) (completion : Outcome) → IsFaultEnded sinks why before after completion → IsUnsent completion before after
fault_unsent sinks (fault.Rejected r) before after completion is = ended_unsent sinks _ before after completion is
fault_unsent sinks fault.Memory before after completion is = ended_unsent sinks _ before after completion is
fault_unsent sinks fault.NoRequest before after completion is = subst (λ (o : Outcome). IsUnsent o before after) (sym is.0) is.1
fault_unsent sinks fault.ReadFailed before after completion is = subst (λ (o : Outcome). IsUnsent o before after) (sym is.0) is.1
