-- What is read of a request's body, and why there is none.
use Rattle.std.specs.Prelude.{◌≡◌, ◌≤◌, ◌<◌, ℕ, List, length, take}
use Rattle.wf_http.specs.declared.http_error.HttpError.TheVariants as http_error
use Rattle.wf_http.specs.declared.fault.RequestFault.{RequestFault}
use Rattle.wf_http.specs.declared.fault.RequestFault.TheVariants as fault

-- the first bytes after the head
pub record IsRequestBody (rest : List ℕ) (bytes : ℕ) (body : List ℕ) : Type 0 where
  pub whole : bytes ≤ length rest
  pub first : body ≡ take bytes rest

-- why no body is read: it is truncated, or an allocation failed, which needs a body of at least one
-- byte
abbrev pub IsBodyFault : List ℕ → ℕ → RequestFault → Type 0
IsBodyFault rest bytes (fault.Rejected r) = (r ≡ http_error.BadRequest) × (length rest < bytes)
IsBodyFault rest bytes fault.NoRequest = ⊥
IsBodyFault rest bytes fault.ReadFailed = Unit {0}
IsBodyFault rest bytes fault.Memory = 0 < bytes
