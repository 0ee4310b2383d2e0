-- The meaning of a mapfile.
use Rattle.std.specs.Prelude.{◌≡◌, ℕ, ◌&&◌, ◌==◌, nat_le, if◌then◌else◌, List, length, codes, Option, Some, None}
use Rattle.std.specs.Str.{is_utf8, str_eq_ignore_ascii_case}
use Rattle.wf_def.specs.Definition.{Definition}
use Rattle.wf_block.specs.Token.{Token, tokens}
use Rattle.wf_block.specs.Grammar.{◌>>=◌, word}
use Rattle.wf_mapfile.specs.Map.{map}

-- the longest mapfile, in bytes
abbrev pub longest_mapfile : ℕ
longest_mapfile = 131_072

-- MAP, its contents, END, and nothing else
unfoldable pub file : List Token → Option Definition
file tokens = do
  x ← word tokens
  all ← if str_eq_ignore_ascii_case x.0 (codes "MAP") then map x.1 else None
  if length all.1 == 0 then Some all.0 else None

-- the meaning of bytes: that of a file within that length, in UTF-8
unfoldable pub meaning : List ℕ → Option Definition
meaning bytes = if nat_le (length bytes) longest_mapfile && is_utf8 bytes then tokens bytes >>= file else None

-- the bytes mean this definition; they mean at most one
abbrev pub Means : List ℕ → Definition → Type 0
Means bytes d = meaning bytes ≡ Some d

-- the bytes aren't a mapfile
abbrev pub MeansNothing : List ℕ → Type 0
MeansNothing bytes = (d : Definition) → ¬ (Means bytes d)
