-- The number of characters of the bytes so far.
use Rattle.std.proofs.Common.{◌≡◌, take}
use Rattle.std.specs.List.{count_by}
use Rattle.wf_check.specs.NumberedLine.{starts_character}
use Rattle.wf_check.proofs.line.characters.Given as goal

abbrev pub invariant-loop-byte : goal.invariant-loop-byte
invariant-loop-byte l = l.count ≡ count_by starts_character (take l.byte-index l.bytes)
