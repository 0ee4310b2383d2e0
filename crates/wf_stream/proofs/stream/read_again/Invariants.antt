use Rattle.std.proofs.Common.{◌-◌}
use Rattle.std.specs.Io.KnownBytes.{Keeps}
use Rattle.wf_stream.specs.Effects.{Interrupts, most_interruptions}
use Rattle.wf_stream.proofs.stream.read_again.Given as goal

-- an interrupted read takes nothing, and is counted
abbrev pub invariant-loop-interruptions : goal.invariant-loop-interruptions
invariant-loop-interruptions g l = Keeps (g.R.Read.remaining l.fn.reader) (g.R.Read.remaining l.reader) × Interrupts l.fn.interruptions l.interruptions

abbrev pub decreases-loop-interruptions : goal.decreases-loop-interruptions
decreases-loop-interruptions g l = most_interruptions - l.interruptions
