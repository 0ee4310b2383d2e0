-- The definitions so far are the first of those after the sequence.
use Rattle.std.proofs.Common.{◌≡◌, take, drop}
use Rattle.wf_reader.proofs.answerer.definitions_after.Given as goal

abbrev pub invariant-loop-offset : goal.invariant-loop-offset
invariant-loop-offset l = l.found.items ≡ take l.offset (drop l.fn.seq l.history.definitions)
