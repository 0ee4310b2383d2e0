use Rattle.std.proofs.Common.{◌≡◌}
use Rattle.wf_readers_port.specs.ReadersPort.{exchanges_of}
use Rattle.wf_readers_port.proofs.port.ReadersPort.accept.Given as goal

abbrev pub invariant-loop : goal.invariant-loop
invariant-loop g l = exchanges_of l.self ≡ exchanges_of l.fn.self
