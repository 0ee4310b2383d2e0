-- From the response written to what its outcome says of the reader.
use Rattle.std.proofs.Common.{◌≡◌, ℕ, List, sym, subst}
use Rattle.std.specs.Prelude.{Option, Err}
use Rattle.wf_http.specs.Front.{CountsReads}
use Rattle.wf_edge.specs.Request.{Request}
use Rattle.wf_http.specs.Response.{Response}
use Rattle.wf_edge.specs.Completion.{IsCompleted, IsErrorCompleted}
use Rattle.wf_edge.specs.Receipt.{CountsReceiving}
use Rattle.wf_http.specs.declared.fault.RequestFault.{RequestFault}
use Rattle.wf_http.specs.declared.fault.RequestFault.TheVariants as fault
use Rattle.wf_edge.specs.declared.outcome.Outcome.{Outcome}
use Rattle.wf_edge.specs.declared.outcome.Outcome.TheVariants as outcome

-- a response that leaves the reader unchanged
pub calm_reads : (response : Response) (old new : Option (List ℕ)) (completion : Outcome) (first last : ℕ) → last ≡ first → IsCompleted response old new completion
    → CountsReceiving completion first last
calm_reads response old new (outcome.Sent status count) first last calm written = calm
calm_reads response old new (outcome.WriteFailed status count) first last calm written = calm
calm_reads response old new outcome.ReadFailed first last calm written = absurd written
calm_reads response old new outcome.NoRequest first last calm written = absurd written

pub fault_reads : (why : RequestFault) (old new : Option (List ℕ)) (completion : Outcome) (first last : ℕ) → IsErrorCompleted why old new completion
    → CountsReads {T = Request} (Err why) first last → CountsReceiving completion first last
fault_reads (fault.Rejected r) old new completion first last written counted = calm_reads _ old new completion first last counted written
fault_reads fault.Memory old new completion first last written counted = calm_reads _ old new completion first last counted written
fault_reads fault.NoRequest old new completion first last written counted =
    subst (λ o. CountsReceiving o first last) (sym written.0) counted
fault_reads fault.ReadFailed old new completion first last written counted =
    subst (λ o. CountsReceiving o first last) (sym written.0) counted
