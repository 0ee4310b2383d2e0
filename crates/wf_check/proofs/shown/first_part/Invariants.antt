-- The end is within the bytes, and at most so many stand before it.
use Rattle.std.proofs.Common.{◌≤◌, length}
use Rattle.wf_check.proofs.shown.first_part.Given as goal

abbrev pub invariant-loop-end : goal.invariant-loop-end
invariant-loop-end l = record {
  within : l.end ≤ length l.after;
  short : l.end ≤ 50;
}

abbrev pub decreases-loop-end : goal.decreases-loop-end
decreases-loop-end l = l.end
