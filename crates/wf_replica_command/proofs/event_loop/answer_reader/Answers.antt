-- The reader is replied by the list as it is.
use Rattle.std.proofs.Common.{ap}
use Rattle.wf_replica_command.proofs.Readers.{replied_more}
use Rattle.wf_replica_command.proofs.event_loop.answer_reader.Goals as goal

pub returns : goal.returns
returns g c = replied_more _ _ _ _ _ _ (ap (λ h. h.definitions) c.history.ensures) c.on_ready.ensures
