use Rattle.std.proofs.Common.{◌-◌}
use Rattle.std.specs.Io.KnownBytes.{Keeps}
use Rattle.wf_stream.specs.Effects.{Interrupts, most_interruptions}
use Rattle.wf_stream.proofs.stream.write_again.Given as goal

-- an interrupted write leaves nothing, and is counted
abbrev pub invariant-loop-interruptions : goal.invariant-loop-interruptions
invariant-loop-interruptions g l = Keeps (g.W.Write.contents l.fn.writer) (g.W.Write.contents l.writer) × Interrupts l.fn.interruptions l.interruptions

abbrev pub decreases-loop-interruptions : goal.decreases-loop-interruptions
decreases-loop-interruptions g l = most_interruptions - l.interruptions
