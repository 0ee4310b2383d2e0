-- A replica goes on.
use Rattle.std.specs.Prelude.{◌≡◌, List, ◌++◌}
use Rattle.wf_model.specs.Message.{Message}
use Rattle.wf_def.specs.Definition.{Definition}
use Rattle.wf_replica.specs.Follower.{Grows, read_by, received_by}
use Rattle.wf_replica.specs.declared.follower.Follower.{Follower}
use Rattle.wf_tape.specs.declared.tape.Tape.{Ghosts as Tape}

-- It is the same replica later: what it had heard and its list are beginnings of what they are now,
-- and what it read of its tape is the same.
pub record IsLaterReplica {T : Type 0} {tapes : Tape T} (old new : Follower T tapes) : Type 0 where
  pub grows : Grows old new
  pub received : (more : List (Message Definition)) × (received_by new ≡ received_by old ++ more)
  pub read : read_by new ≡ read_by old
