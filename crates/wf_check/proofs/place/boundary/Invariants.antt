-- The bytes are sound up to `last`, unless it is `from`, and not up to the first block from `stop`
-- on.
use Rattle.std.proofs.Common.{◌-◌, ◌≤◌}
use Rattle.wf_check.proofs.Places.{IsBetween}
use Rattle.wf_check.proofs.place.boundary.Given as goal

abbrev pub invariant-loop-stop : goal.invariant-loop-stop
invariant-loop-stop l = record {
  between : IsBetween l.all l.fault l.bytes l.from l.last l.stop;
  up : l.stop ≤ l.to;
}

abbrev pub decreases-loop-stop : goal.decreases-loop-stop
decreases-loop-stop l = l.stop - l.last
