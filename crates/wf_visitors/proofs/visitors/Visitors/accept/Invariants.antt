use Rattle.std.proofs.Common.{◌≡◌}
use Rattle.wf_visitors.specs.Visitors.{responses_of}
use Rattle.wf_visitors.proofs.visitors.Visitors.accept.Given as goal

abbrev pub invariant-loop : goal.invariant-loop
invariant-loop g l = responses_of l.self ≡ responses_of l.fn.self
