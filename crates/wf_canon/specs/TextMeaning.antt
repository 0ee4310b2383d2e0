-- The meaning of a text of any length. A mapfile's meaning is this, for texts within the length
-- limit.
use Rattle.std.specs.Prelude.{◌≡◌, ℕ, true, List, Some}
use Rattle.std.specs.Str.{is_utf8}
use Rattle.wf_def.specs.Definition.{Definition}
use Rattle.wf_def.specs.Limits.{IsWithinLimits}
use Rattle.wf_block.specs.Token.{tokens}
use Rattle.wf_block.specs.Grammar.{◌>>=◌}
use Rattle.wf_mapfile.specs.Meaning.{file}
use Rattle.wf_spelling.specs.Canon.{canon}

-- the bytes are UTF-8, and their tokens are a file that means this map
pub record Denotes (bytes : List ℕ) (d : Definition) : Type 0 where
  pub utf8 : is_utf8 bytes ≡ true
  pub settings : (tokens bytes >>= file) ≡ Some d

-- Two maps with the same canonical text are equal.
abbrev pub OneTextOneMap : Type 0
OneTextOneMap = (d e : Definition) → IsWithinLimits d → IsWithinLimits e → canon d ≡ canon e → d ≡ e
