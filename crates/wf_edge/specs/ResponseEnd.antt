-- How writing a response ends: a call that fails is the last one, and where there is no response no
-- call is made. This holds of each writer, also of one whose bytes aren't known.
use Rattle.std.specs.Prelude.{◌≡◌}
use Rattle.wf_edge.specs.ErrorResponse.{response_of_error}
use Rattle.wf_edge.specs.Completion.{IsCompleted, CountsCompleting}
use Rattle.wf_http.specs.WriteEnd.{BreaksOff}
use Rattle.wf_http.specs.Response.{Response, response_bytes}
use Rattle.wf_http.specs.declared.fault.RequestFault.{RequestFault}
use Rattle.wf_http.specs.declared.fault.RequestFault.TheVariants as fault
use Rattle.wf_stream.specs.declared.stream.Sink.{Ghosts as Sink}
use Rattle.wf_edge.specs.declared.error_response.ErrorResponse.TheVariants as error_response
use Rattle.wf_edge.specs.declared.outcome.Outcome.{Outcome}
use Rattle.wf_edge.specs.declared.outcome.Outcome.TheVariants as outcome

module _ {K : Type 0} (sinks : Sink K) where
  -- how the response ended: nothing more is said where it was written completely
  abbrev pub IsEnded : Response → K → K → Outcome → Type 0
  IsEnded response old new (outcome.Sent status count) = Unit {0}
  IsEnded response old new (outcome.WriteFailed status count) = BreaksOff sinks (response_bytes response) old new count × (status ≡ response.status)
  IsEnded response old new outcome.ReadFailed = ⊥
  IsEnded response old new outcome.NoRequest = ⊥

  -- for the crate's own contracts: what was written of the response, whether a write failed, and
  -- how the response ended
  pub record Completes (response : Response) (old new : K) (completion : Outcome) : Type 0 where
    pub written : IsCompleted response (sinks.written old) (sinks.written new) completion
    pub counts : CountsCompleting completion (sinks.failures old) (sinks.failures new)
    pub ended : IsEnded response old new completion

  -- how it ended if there is no request: its rejection ended, or the writer is unchanged
  abbrev pub IsFaultEnded : RequestFault → K → K → Outcome → Type 0
  IsFaultEnded (fault.Rejected r) old new completion = IsEnded (response_of_error (error_response.Rejected r)) old new completion
  IsFaultEnded fault.Memory old new completion = IsEnded (response_of_error error_response.Unavailable) old new completion
  IsFaultEnded fault.NoRequest old new completion = (completion ≡ outcome.NoRequest) × (new ≡ old)
  IsFaultEnded fault.ReadFailed old new completion = (completion ≡ outcome.ReadFailed) × (new ≡ old)
