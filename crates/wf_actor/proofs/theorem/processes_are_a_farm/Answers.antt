use Rattle.wf_actor.proofs.Farms.{processes_are_farm}
use Rattle.wf_actor.proofs.theorem.processes_are_a_farm.Goals as goal

pub returns : goal.returns
returns g c = processes_are_farm g.T.Tape
