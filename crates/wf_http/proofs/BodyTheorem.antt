-- The body of a request, from the bytes read with its head and those read after.
use Rattle.std.proofs.Common.{◌≡◌, ◌≢◌, ◌∙◌, ◌+◌, ◌-◌, ◌≤◌, ◌<◌, ℕ, List, [], ◌∷◌, ◌++◌, length, take, min, refl, sym, ap, arith, inl, inr}
use Rattle.std.specs.Prelude.{Option, Some, None, IfSome}
use Rattle.std.proofs.lemmas.Bool.{cases_lt}
use Rattle.std.proofs.Math.Seq.{take-append-add}
use Rattle.std.proofs.lemmas.List.{append-nil, length-append, length-take, take_all, take-append-le}
use Rattle.std.specs.Io.KnownBytes.{Consumes, IsAtEnd}
use Rattle.wf_stream.specs.KnownTheorems.{first_at_end, first_at_limit, nothing_read, takes_read}
use Rattle.wf_stream.specs.Effects.{ReadsPiece, TakesUpTo}
use Rattle.wf_http.specs.Body.{IsRequestBody, IsBodyFault}
use Rattle.wf_http.specs.declared.http_error.HttpError.TheVariants as http_error
use Rattle.wf_http.specs.declared.fault.RequestFault.TheVariants as fault

nothing : (xs : List ℕ) → length xs ≡ 0 → xs ≡ []
nothing [] empty = refl
nothing (x ∷ xs) empty = absurd (omega arith)

module _ (behind known front rest : List ℕ) (bytes missing : ℕ) (came : front ≡ take (min (length behind) bytes) behind)
    (misses : missing ≡ bytes - length front) (read : rest ≡ take missing known) where
  came_bytes : length front ≡ min (length behind) bytes
  came_bytes = let size = length-take (min (length behind) bytes) behind in
      let same : length front ≡ length (take (min (length behind) bytes) behind) = ap length came in omega arith

  -- all of the body came with the head
  came_whole : bytes ≤ length behind → front ++ rest ≡ take bytes (behind ++ known)
  came_whole all =
      let size = came_bytes in
      let least : min (length behind) bytes ≡ bytes = omega arith in
      let none : missing ≡ 0 = omega arith in
      let empty : rest ≡ [] = nothing rest (ap length read ∙ length-take missing known ∙ omega arith) in
      ap (λ xs. front ++ xs) empty ∙ append-nil front ∙ came ∙ ap (λ n. take n behind) least ∙ sym (take-append-le bytes behind known all)

  -- a part of the body came with the head
  came_part : length behind ≤ bytes → front ++ rest ≡ take bytes (behind ++ known)
  came_part part =
      let size = came_bytes in
      let least : min (length behind) bytes ≡ length behind = omega arith in
      let all : front ≡ behind = came ∙ ap (λ n. take n behind) least ∙ take_all (length behind) behind (omega arith) in
      let sum : length behind + missing ≡ bytes = omega arith in
      ap (λ xs. xs ++ rest) all ∙ ap (λ xs. behind ++ xs) read ∙ sym (take-append-add behind known missing) ∙ ap (λ n. take n (behind ++ known)) sum

  whole_body : length rest ≡ missing → IsRequestBody (behind ++ known) bytes (front ++ rest)
  whole_body full = record {
    whole = let sizes = length-append behind known in let size = came_bytes in
        let had : length rest ≡ min missing (length known) = ap length read ∙ length-take missing known in omega arith;
    first = elim (cases_lt bytes (length behind)) [
      | inl all ↦ came_whole (omega arith)
      | inr part ↦ came_part part
    ];
  }

  cut_body : length rest ≢ missing → length (behind ++ known) < bytes
  cut_body short =
      let sizes = length-append behind known in let size = came_bytes in
      let had : length rest ≡ min missing (length known) = ap length read ∙ length-take missing known in omega arith

-- what was read after the front is what was missing, or all that was left
piece_is : (known : List ℕ) (new : Option (List ℕ)) (piece : List ℕ) (count missing : ℕ) → length piece ≡ count → Consumes (Some known) new piece
    → count ≤ missing → (count < missing → IsAtEnd new) → piece ≡ take missing known
piece_is known new piece count missing size consumed short ends = elim (cases_lt count missing) [
  | inl fewer ↦ first_at_end (Some known) new piece missing consumed (ends fewer) (omega arith)
  | inr full ↦ first_at_limit (Some known) new piece missing consumed (omega arith)
]

-- the same, if the input is known
pub body_joined : (left new : Option (List ℕ)) (behind front begun body : List ℕ) (bytes missing count : ℕ) → front ≡ take (min (length behind) bytes) behind
    → missing ≡ bytes - length front → begun ≡ front → ReadsPiece count left new begun body → count ≤ missing → (count < missing → IsAtEnd new) → count ≡ missing
    → IfSome left (λ known. IsRequestBody (behind ++ known) bytes body)
body_joined None new behind front begun body bytes missing count came misses same read short ends full = tt
body_joined (Some known) new behind front begun body bytes missing count came misses same (piece, size, consumed, is) short ends full =
    rw (is, same)
    (whole_body behind known front piece bytes missing came misses (piece_is known new piece count missing size consumed short ends) (size ∙ full))

pub body_cut : (left new : Option (List ℕ)) (behind front begun body : List ℕ) (bytes missing count : ℕ) → front ≡ take (min (length behind) bytes) behind
    → missing ≡ bytes - length front → ReadsPiece count left new begun body → count ≤ missing → (count < missing → IsAtEnd new) → count ≢ missing
    → IfSome left (λ known. IsBodyFault (behind ++ known) bytes (fault.Rejected http_error.BadRequest))
body_cut None new behind front begun body bytes missing count came misses read short ends other = tt
body_cut (Some known) new behind front begun body bytes missing count came misses (piece, size, consumed, is) short ends other =
    (refl, cut_body behind known front piece bytes missing came misses (piece_is known new piece count missing size consumed short ends) (λ full. other (sym size ∙ full)))

-- a body of at least one byte allocates
pub body_unheld : (left : Option (List ℕ)) (behind : List ℕ) (bytes : ℕ) → 0 < bytes → IfSome left (λ known. IsBodyFault (behind ++ known) bytes fault.Memory)
body_unheld None behind bytes some = tt
body_unheld (Some known) behind bytes some = some

-- ---- how much is taken

-- no more than what was missing
pub missing_taken : (old new : Option (List ℕ)) (behind front : List ℕ) (bytes missing : ℕ) → front ≡ take (min (length behind) bytes) behind
    → missing ≡ bytes - length front → TakesUpTo missing old new → TakesUpTo (bytes - length behind) old new
missing_taken old new behind front bytes missing came misses (taken, short, consumed) =
    let size = length-take (min (length behind) bytes) behind in
    let same : length front ≡ length (take (min (length behind) bytes) behind) = ap length came in
    (taken, omega arith, consumed)

pub nothing_taken : (known : Option (List ℕ)) (limit : ℕ) → TakesUpTo limit known known
nothing_taken known limit = takes_read known known 0 limit [] [] (nothing_read known []) (omega arith)
