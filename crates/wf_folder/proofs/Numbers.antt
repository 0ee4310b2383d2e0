-- The digits of a number are read as it, and are eight.
use Rattle.std.proofs.Common.{◌≡◌, ◌∙◌, ℕ, zero, suc, ◌<◌, ◌≤◌, ◌^◌, List, [], ◌∷◌, length, length-append, ◌++◌, take, sym, ap, subst, refl, arith}
use Rattle.std.specs.Prelude.{MatchResult, Option, Some, None, IfNone, ◌≢◌}
use Rattle.std.specs.Int.{w32, to_be_bytes}
use Rattle.std.proofs.Math.Seq.{take-append_seam}
use Rattle.hex.specs.Hex.{IsBytes, decode_sized, encode_lower}
use Rattle.hex.proofs.HexLemmas.{decode_sized-encode_lower}
use Rattle.hex.specs.declared.error.FromHexError.{FromHexError}
use Rattle.wf_folder.specs.Number.{number_digits}
use Rattle.wf_folder.specs.NumberTheorems.{digits_of_digest, digits_of_mark, eight}

-- each byte of a number is one
pub are_bytes : (n : ℕ) → IsBytes (to_be_bytes w32 n)
are_bytes n zero = omega arith
are_bytes n (suc zero) = omega arith
are_bytes n (suc (suc zero)) = omega arith
are_bytes n (suc (suc (suc zero))) = omega arith
are_bytes n (suc (suc (suc (suc i)))) = omega arith

-- what is decoded from a number's digits is its bytes
pub decoded_number : (P : List ℕ → Type 0) (Q : FromHexError → Type 0) (text : List ℕ) (n : ℕ) → text ≡ number_digits n →
    MatchResult (decode_sized text 4) P Q → P (to_be_bytes w32 n)
unfolding number_digits
decoded_number P Q text n e m =
    subst (λ r. MatchResult r P Q) (ap (λ t. decode_sized t 4) e ∙ decode_sized-encode_lower (to_be_bytes w32 n) 4 refl (are_bytes n)) m

-- equal fronts of equal lengths: what follows is equal, too
pub same_fronts : (a b c d : List ℕ) → length a ≡ length b → a ++ c ≡ b ++ d → (a ≡ b) × (c ≡ d)
same_fronts [] [] c d size e = (refl, e)
same_fronts [] (y ∷ b) c d size e = absurd (omega (arith, size))
same_fronts (x ∷ a) [] c d size e = absurd (omega (arith, size))
same_fronts (x ∷ a) (y ∷ b) c d size e =
    let rest = same_fronts a b c d (omega (arith, size)) cc in
    let first : x ≡ y = cc in
    (cc, rest.1)

-- equal ends of equal lengths
pub same_ends : (a b c d : List ℕ) → length b ≡ length d → a ++ b ≡ c ++ d → (a ≡ c) × (b ≡ d)
same_ends a b c d size e =
    same_fronts a c b d (omega (arith, size, length-append a b, length-append c d, ap length e)) e

-- bytes that begin with a number's digits have them in front, and with a mark's, too
pub number_fits : (n : ℕ) (bytes rest : List ℕ) → bytes ≡ number_digits n ++ rest → 8 ≤ length bytes
number_fits n bytes rest e = omega (arith, ap length e, length-append (number_digits n) rest, eight n)

pub number_front : (n : ℕ) (bytes rest : List ℕ) → bytes ≡ number_digits n ++ rest → take 8 bytes ≡ number_digits n
number_front n bytes rest e =
    ap (take 8) e ∙ subst (λ (k : ℕ). take k (number_digits n ++ rest) ≡ number_digits n) (eight n) (take-append_seam (number_digits n) rest)

pub mark_fits : (mark bytes rest : List ℕ) → length mark ≡ 16 → bytes ≡ encode_lower mark ++ rest → 32 ≤ length bytes
mark_fits mark bytes rest size e = omega (arith, ap length e, length-append (encode_lower mark) rest, digits_of_mark mark size)

pub mark_front : (mark bytes rest : List ℕ) → length mark ≡ 16 → bytes ≡ encode_lower mark ++ rest → take 32 bytes ≡ encode_lower mark
mark_front mark bytes rest size e =
    ap (take 32) e ∙ subst (λ (k : ℕ). take k (encode_lower mark ++ rest) ≡ encode_lower mark) (digits_of_mark mark size) (take-append_seam (encode_lower mark) rest)

pub digest_fits : (digest bytes rest : List ℕ) → length digest ≡ 32 → bytes ≡ encode_lower digest ++ rest → 64 ≤ length bytes
digest_fits digest bytes rest size e = omega (arith, ap length e, length-append (encode_lower digest) rest, digits_of_digest digest size)

pub digest_front : (digest bytes rest : List ℕ) → length digest ≡ 32 → bytes ≡ encode_lower digest ++ rest → take 64 bytes ≡ encode_lower digest
digest_front digest bytes rest size e =
    ap (take 64) e ∙ subst (λ (k : ℕ). take k (encode_lower digest ++ rest) ≡ encode_lower digest) (digits_of_digest digest size) (take-append_seam (encode_lower digest) rest)

-- where a text hasn't the digits of what it decodes to, it has those of no number
pub of_no_number : (result : Option ℕ) (text : List ℕ) (found : ℕ) → IfNone result (text ≢ number_digits found) →
    ((n : ℕ) → n < 2 ^ 32 → text ≡ number_digits n → found ≡ n) →
    IfNone result ((n : ℕ) → n < 2 ^ 32 → text ≢ number_digits n)
of_no_number None text found none same = λ n fits e. none (subst (λ (k : ℕ). text ≡ number_digits k) (sym (same n fits e)) e)
of_no_number (Some x) text found none same = none
