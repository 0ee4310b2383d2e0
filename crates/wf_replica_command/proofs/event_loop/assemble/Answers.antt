-- No reader was replied yet.
use Rattle.wf_replica_command.proofs.Readers.{none_replied}
use Rattle.wf_replica_command.proofs.event_loop.assemble.Goals as goal

pub invariant_of-result : goal.invariant_of-result
invariant_of-result g c = record { replied = none_replied _ _ c.requires.readers }
