-- What is written of a response, and the outcome reported.
use Rattle.std.specs.Prelude.{◌≡◌, ℕ, List, length, Option}
use Rattle.std.specs.Io.KnownBytes.{Appends, Keeps}
use Rattle.wf_stream.specs.Effects.{Rises}
use Rattle.wf_http.specs.Response.{Response, response_bytes, IsCount, WritesPart}
use Rattle.wf_edge.specs.ErrorResponse.{response_of_error}
use Rattle.wf_http.specs.declared.fault.RequestFault.{RequestFault}
use Rattle.wf_http.specs.declared.fault.RequestFault.TheVariants as fault
use Rattle.wf_edge.specs.declared.error_response.ErrorResponse.TheVariants as error_response
use Rattle.wf_edge.specs.declared.outcome.Outcome.{Outcome}
use Rattle.wf_edge.specs.declared.outcome.Outcome.TheVariants as outcome

-- all of it and its length, or a prefix if the writer failed
abbrev pub IsCompleted : Response → Option (List ℕ) → Option (List ℕ) → Outcome → Type 0
IsCompleted response old new (outcome.Sent status count) =
    Appends old new (response_bytes response) × (status ≡ response.status) × IsCount (length (response_bytes response)) count
IsCompleted response old new (outcome.WriteFailed status count) = WritesPart (response_bytes response) old new count × (status ≡ response.status)
IsCompleted response old new outcome.ReadFailed = ⊥
IsCompleted response old new outcome.NoRequest = ⊥

-- what is written if there is no request: a rejection, or nothing
abbrev pub IsErrorCompleted : RequestFault → Option (List ℕ) → Option (List ℕ) → Outcome → Type 0
IsErrorCompleted (fault.Rejected r) old new completion = IsCompleted (response_of_error (error_response.Rejected r)) old new completion
IsErrorCompleted fault.Memory old new completion = IsCompleted (response_of_error error_response.Unavailable) old new completion
IsErrorCompleted fault.NoRequest old new completion = (completion ≡ outcome.NoRequest) × Keeps old new
IsErrorCompleted fault.ReadFailed old new completion = (completion ≡ outcome.ReadFailed) × Keeps old new

-- a failed write is reported iff one has failed
abbrev pub CountsCompleting : Outcome → ℕ → ℕ → Type 0
CountsCompleting (outcome.WriteFailed status count) old new = Rises old new
CountsCompleting (outcome.Sent status count) old new = new ≡ old
CountsCompleting outcome.ReadFailed old new = new ≡ old
CountsCompleting outcome.NoRequest old new = new ≡ old
