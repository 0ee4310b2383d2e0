-- The error that bytes are rejected with, as far as it is promised: what is checked before any
-- token is read, and what the first token, or what follows the map, gives away. Of all other errors
-- it is promised alone that the bytes mean nothing.
use Rattle.std.specs.Prelude.{◌≡◌, ◌≢◌, ◌≤◌, ◌<◌, ℕ, Bool, true, false, List, [], ◌∷◌, length, codes, Some, ⊤}
use Rattle.std.specs.Str.{is_utf8, str_eq_ignore_ascii_case}
use Rattle.std.specs.Str.Lossy.{utf8_valid_len}
use Rattle.wf_block.specs.declared.fault.MapFault.{MapFault}
use Rattle.wf_block.specs.declared.fault.MapFault.TheVariants as faults
use Rattle.wf_def.specs.Definition.{Definition}
use Rattle.wf_mapfile.specs.Map.{map}
use Rattle.wf_mapfile.specs.Meaning.{MeansNothing, longest_mapfile}
use Rattle.wf_block.specs.Token.{Token, Word, Quoted, Braced, tokens}

-- the token is the word MAP
unfoldable pub begins_map : Token → Bool
begins_map (Word bytes) = str_eq_ignore_ascii_case bytes (codes "MAP")
begins_map (Quoted bytes) = false
begins_map (Braced inside) = false

-- M5: it isn't what is expected there
abbrev pub IsUnexpected : MapFault → Type 0
IsUnexpected (faults.UnexpectedWord byte_offset) = ⊤
IsUnexpected _ = ⊥

-- M12: it follows MAP's END
abbrev pub IsTrailing : MapFault → Type 0
IsTrailing (faults.Trailing byte_offset) = ⊤
IsTrailing _ = ⊥

-- The error of a file with these tokens. It has none: M9, MAP itself is missing. It begins with
-- another token than MAP: M5. It is a whole map, with a token after it: M12.
pub record IsErrorOf (file : List Token) (fault : MapFault) : Type 0 where
  pub no_token : file ≡ [] → fault ≡ faults.Missing
  pub no_map : (first : Token) (rest : List Token) → file ≡ first ∷ rest → begins_map first ≡ false → IsUnexpected fault
  pub trailing : (first : Token) (rest more : List Token) (d : Definition) → file ≡ first ∷ rest → begins_map first ≡ true → map rest ≡ Some (d, more)
      → more ≢ [] → IsTrailing fault

-- Bytes that mean nothing have this error. The length is checked first (M2); then UTF-8 (M3, behind
-- the longest beginning that is UTF-8); then tokens from left to right.
pub record HasError (bytes : List ℕ) (fault : MapFault) : Type 0 where
  pub means_nothing : MeansNothing bytes
  pub too_long : longest_mapfile < length bytes → fault ≡ faults.TooLong
  pub not_utf8 : length bytes ≤ longest_mapfile → is_utf8 bytes ≡ false → fault ≡ faults.NotUtf8 (utf8_valid_len bytes)
  pub of_tokens : (file : List Token) → length bytes ≤ longest_mapfile → is_utf8 bytes ≡ true → tokens bytes ≡ Some file → IsErrorOf file fault
