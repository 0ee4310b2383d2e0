-- The two directions of a connection.
use Rattle.wf_simulation.specs.Pipe.{PipeState, KeepsBytes}
use Rattle.wf_simulation.specs.declared.channel.Channel.{Channel}
use Rattle.wf_simulation.specs.declared.endpoint.Side.{Side}
use Rattle.wf_simulation.specs.declared.endpoint.Side.TheVariants.{Caller, Callee}

-- what comes to an end, and what goes from it
abbrev pub incoming : Side → Channel → PipeState
incoming Caller channel = channel.back.pipe
incoming Callee channel = channel.forth.pipe

abbrev pub outgoing : Side → Channel → PipeState
outgoing Caller channel = channel.forth.pipe
outgoing Callee channel = channel.back.pipe

-- in both directions as many bytes were sent and came, the very same
pub record KeepsBoth (before after : Channel) : Type 0 where
  pub forth : KeepsBytes before.forth.pipe after.forth.pipe
  pub back : KeepsBytes before.back.pipe after.back.pipe
