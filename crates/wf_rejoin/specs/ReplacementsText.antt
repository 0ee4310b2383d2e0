-- The text of the file `replaced`: what a node knows of replacements. Numbers have eight
-- hexadecimal digits.
use Rattle.std.specs.Prelude.{◌≡◌, ℕ, ◌<◌, ◌^◌, List, ◌++◌, codes, length, Option, Some, None}
use Rattle.hex.specs.Hex.{IsBytes}
use Rattle.wf_folder.specs.Words.{mark_then, number_then}
use Rattle.wf_rejoin.specs.Lines.{lines_of}
use Rattle.wf_rejoin.specs.declared.replacement.Replacement.{Replacement}

-- a count of 32 bits and a mark of 16 bytes
pub record IsReplacementInRange (r : Replacement) : Type 0 where
  pub fits : r.count < 2 ^ 32
  pub bytes : IsBytes r.mark
  pub size : length r.mark ≡ 16

abbrev pub IsEntry : Option Replacement → Type 0
IsEntry None = Unit {0}
IsEntry (Some r) = IsReplacementInRange r

-- a node's line, and what follows
unfoldable pub entry_line : Option Replacement → List ℕ → List ℕ
entry_line None rest = codes "nothing\n" ++ rest
entry_line (Some r) rest = number_then (codes "count ") r.count (mark_then (codes " mark ") r.mark (codes "\n" ++ rest))

abbrev pub replaced_line : List ℕ
replaced_line = codes "wfarm replaced 1\n"

abbrev pub replaced_text : List (Option Replacement) → List ℕ
replaced_text known = replaced_line ++ lines_of entry_line known
