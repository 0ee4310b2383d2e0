-- The start is within the bytes, and at most so many stand after it.
use Rattle.std.proofs.Common.{◌≤◌, ◌+◌, ◌-◌, length}
use Rattle.wf_check.proofs.shown.last_part.Given as goal

abbrev pub invariant-loop-start : goal.invariant-loop-start
invariant-loop-start l = record {
  within : l.start ≤ length l.before;
  short : length l.before ≤ l.start + 50;
}

abbrev pub decreases-loop-start : goal.decreases-loop-start
decreases-loop-start l = length l.before - l.start
