use Rattle.std.proofs.Common.{◌≡◌}
use Rattle.wf_readers_port.specs.ReadersPort.{exchanges_of}
use Rattle.wf_readers_port.proofs.port.ReadersPort.tick.Given as goal

abbrev pub invariant-loop-index : goal.invariant-loop-index
invariant-loop-index g l = exchanges_of l.self ≡ exchanges_of l.fn.self
