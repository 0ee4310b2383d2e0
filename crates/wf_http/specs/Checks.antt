-- The checks on the head of a request, in order, and the rejection by the first that fails.
use Rattle.std.specs.Prelude.{ℕ, ◌==◌, Bool, ◌&&◌, nat_lt, List, [], ◌∷◌, codes, Option, Some, None, Result, Ok, Err, if◌then◌else◌}
use Rattle.std.specs.List.{list_all}
use Rattle.wf_text.specs.Number.{number_of_digits}
use Rattle.wf_http.specs.Fields.{values, first_of, is_digits}
use Rattle.wf_http.specs.declared.http_error.HttpError.{HttpError}
use Rattle.wf_http.specs.declared.http_error.HttpError.TheVariants as http_error

-- the greatest length of a body, in bytes
abbrev pub most_body_bytes : ℕ
most_body_bytes = 131072

-- the rejection by the first check that fails
abbrev pub first_failing : List (Option HttpError) → Option HttpError
first_failing [] = None
first_failing (None ∷ checks) = first_failing checks
first_failing (Some r ∷ checks) = Some r

-- what is asked for, unless a check fails
abbrev pub unless_rejected : {T : Type 0} → Option HttpError → Result T HttpError → Result T HttpError
unless_rejected (Some r) asks = Err r
unless_rejected None asks = asks

-- ---- the check on the target

-- the target begins with a slash
unfoldable pub check_target : List ℕ → Option HttpError
check_target [] = Some http_error.BadRequest
check_target (byte ∷ _) = if byte == 47 then None else Some http_error.BadRequest

-- ---- the checks on a body, by the transfer codings and the lengths in the head

-- the values of Transfer-Encoding (RFC 9112, section 6.1)
abbrev pub codings_of : List (List ℕ × List ℕ) → List (List ℕ)
codings_of fields = values (codes "Transfer-Encoding") fields

-- the values of Content-Length (RFC 9110, section 8.6)
abbrev pub lengths_of : List (List ℕ × List ℕ) → List (List ℕ)
lengths_of fields = values (codes "Content-Length") fields

-- the body has no transfer coding
abbrev pub check_coding : Option (List ℕ) → Option HttpError
check_coding None = None
check_coding (Some coding) = Some http_error.NotImplemented

-- its length is given
abbrev pub check_reported : Option (List ℕ) → Option HttpError
check_reported None = Some http_error.LengthRequired
check_reported (Some first) = None

-- the lengths are written in digits, and are all the same number
abbrev pub are_one_number : List ℕ → List (List ℕ) → Bool
are_one_number first lengths = list_all is_digits lengths && list_all (λ length. number_of_digits length == number_of_digits first) lengths

abbrev pub check_number : Option (List ℕ) → List (List ℕ) → Option HttpError
check_number None lengths = None
check_number (Some first) lengths = if are_one_number first lengths then None else Some http_error.BadRequest

-- the number is within the limit
abbrev pub check_size : Option (List ℕ) → Option HttpError
check_size None = None
check_size (Some first) = if nat_lt most_body_bytes (number_of_digits first) then Some http_error.ContentTooLarge else None

abbrev pub body_checks : List (List ℕ) → List (List ℕ) → List (Option HttpError)
body_checks codings lengths =
    check_coding (first_of codings) ∷ check_reported (first_of lengths) ∷ check_number (first_of lengths) lengths ∷ check_size (first_of lengths) ∷ []

-- the number that the first length is
abbrev pub number_in : Option (List ℕ) → ℕ
number_in None = 0
number_in (Some first) = number_of_digits first

-- the length of the body that the fields announce
unfoldable pub body_length : List (List ℕ × List ℕ) → Result ℕ HttpError
body_length fields =
    unless_rejected (first_failing (body_checks (codings_of fields) (lengths_of fields))) (Ok (number_in (first_of (lengths_of fields))))
