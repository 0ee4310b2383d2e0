-- No block begins before the offset.
use Rattle.std.proofs.Common.{◌-◌, ◌≤◌}
use Rattle.wf_check.specs.Finding.{NoneBegins}
use Rattle.wf_check.proofs.place.first_block.Given as goal

abbrev pub invariant-loop-offset : goal.invariant-loop-offset
invariant-loop-offset l = record {
  from : l.from ≤ l.offset;
  none : NoneBegins l.all l.bytes l.from l.offset;
}

abbrev pub decreases-loop-offset : goal.decreases-loop-offset
decreases-loop-offset l = l.to - l.offset
