-- The checks on a body in order, and what holds if they pass.
use Rattle.std.proofs.Common.{◌≡◌, ℕ, ◌≤◌, Bool, true, false, cond, List, [], ◌∷◌, refl, sym}
use Rattle.std.specs.Prelude.{nat_lt, Option, Some, None, IfSome}
use Rattle.std.specs.Option.{option_or}
use Rattle.std.proofs.lemmas.Bool.{ltb-false}
use Rattle.wf_text.specs.Number.{number_of_digits}
use Rattle.wf_http.specs.Fields.{first_of}
use Rattle.wf_http.specs.Checks.{most_body_bytes, check_coding, check_reported, check_number, check_size, body_checks, first_failing}
use Rattle.wf_http.specs.declared.http_error.HttpError.{HttpError}
use Rattle.wf_http.specs.declared.http_error.HttpError.TheVariants as http_error

-- the first of four checks that fails, in order
pub first_of_four : (a b c d : Option HttpError) → option_or (option_or (option_or a b) c) d ≡ first_failing (a ∷ b ∷ c ∷ d ∷ [])
first_of_four (Some r) b c d = refl
first_of_four None (Some r) c d = refl
first_of_four None None (Some r) d = refl
first_of_four None None None (Some r) = refl
first_of_four None None None None = refl

-- if none of four checks fails, the last doesn't
last_passes : (a b c d : Option HttpError) → first_failing (a ∷ b ∷ c ∷ d ∷ []) ≡ None → d ≡ None
last_passes None None None None none = refl
last_passes None None None (Some r) none = none
last_passes None None (Some r) d none = let clash : Some r ≡ None = none in cc
last_passes None (Some r) c d none = let clash : Some r ≡ None = none in cc
last_passes (Some r) b c d none = let clash : Some r ≡ None = none in cc

size_by_test : (n : ℕ) (over : Bool) → nat_lt most_body_bytes n ≡ over → cond over (Some http_error.ContentTooLarge) None ≡ None → n ≤ most_body_bytes
size_by_test n false is none = ltb-false most_body_bytes n is
size_by_test n true is none = let clash : Some http_error.ContentTooLarge ≡ None = none in cc

size_within : (first : Option (List ℕ)) → check_size first ≡ None → IfSome first (λ digits. number_of_digits digits ≤ most_body_bytes)
size_within None passes = tt
size_within (Some digits) passes = size_by_test (number_of_digits digits) (nat_lt most_body_bytes (number_of_digits digits)) refl passes

-- a body that passes is within the limit
pub size_passed : (codings lengths : List (List ℕ)) (first : Option (List ℕ)) → None ≡ first_failing (body_checks codings lengths) → first ≡ first_of lengths
    → IfSome first (λ digits. number_of_digits digits ≤ most_body_bytes)
size_passed codings lengths first none is =
    size_within first (rw is (last_passes (check_coding (first_of codings)) (check_reported (first_of lengths)) (check_number (first_of lengths) lengths) (check_size (first_of lengths)) (sym none)))
