-- The number of the line that follows the bytes so far.
use Rattle.std.proofs.Common.{◌≡◌, ◌+◌, take}
use Rattle.std.specs.List.{count_by}
use Rattle.wf_check.specs.NumberedLine.{is_feed}
use Rattle.wf_check.proofs.line.line_number.Given as goal

abbrev pub invariant-loop-byte : goal.invariant-loop-byte
invariant-loop-byte l = l.number ≡ 1 + count_by is_feed (take l.byte-index l.before)
