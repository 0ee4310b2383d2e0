use Rattle.std.proofs.Common.{◌≡◌}
use Rattle.wf_visitors.specs.Visitors.{responses_of}
use Rattle.wf_visitors.proofs.visitors.Visitors.tick.Given as goal

abbrev pub invariant-loop-index : goal.invariant-loop-index
invariant-loop-index g l = responses_of l.self ≡ responses_of l.fn.self
