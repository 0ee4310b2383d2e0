-- The digits of a mark or a digest are read as it.
use Rattle.std.proofs.Common.{◌≡◌, ◌∙◌, ℕ, List, length, sym, ap, subst}
use Rattle.std.specs.Prelude.{Option, Some, None, IfNone, MatchResult, ◌≢◌}
use Rattle.hex.specs.Hex.{IsBytes, decode_sized, encode_lower}
use Rattle.hex.proofs.HexLemmas.{decode_sized-encode_lower}
use Rattle.hex.specs.declared.error.FromHexError.{FromHexError}

-- what holds of a text that is decoded holds of the n bytes whose digits it has
pub decoded : (n : ℕ) (P : List ℕ → Type 0) (Q : FromHexError → Type 0) (text mark : List ℕ) → IsBytes mark → length mark ≡ n → text ≡ encode_lower mark →
    MatchResult (decode_sized text n) P Q → P mark
decoded n P Q text mark bytes size e m =
    subst (λ r. MatchResult r P Q) (ap (λ t. decode_sized t n) e ∙ decode_sized-encode_lower mark n size bytes) m

-- where the text hasn't the digits of what it decodes to, it has those of no n bytes
pub of_none : {A : Type 0} (n : ℕ) (result : Option A) (text found : List ℕ) → IfNone result (text ≢ encode_lower found) →
    ((mark : List ℕ) → IsBytes mark → length mark ≡ n → text ≡ encode_lower mark → found ≡ mark) →
    IfNone result ((mark : List ℕ) → IsBytes mark → length mark ≡ n → text ≢ encode_lower mark)
of_none n None text found none same = λ mark bytes size e. none (subst (λ m. text ≡ encode_lower m) (sym (same mark bytes size e)) e)
of_none n (Some x) text found none same = none
