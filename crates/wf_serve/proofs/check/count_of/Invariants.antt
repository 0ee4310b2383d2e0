-- There are no more than nodes.
use Rattle.std.proofs.Common.{◌≤◌}
use Rattle.wf_serve.proofs.check.count_of.Given as goal

abbrev pub invariant-loop-tape : goal.invariant-loop-tape
invariant-loop-tape l = l.count ≤ 64
