use Rattle.wf_histories.proofs.Ports.{ports_tell}
use Rattle.wf_histories.proofs.theorem.readers_ports_tell.Goals as goal

pub returns : goal.returns
returns g c = ports_tell g.row.N.Denot g.C.Connection
