use Rattle.wf_histories.proofs.Agreement.{show_lives}
use Rattle.wf_histories.proofs.theorem.processes_show_lives.Goals as goal

pub returns : goal.returns
returns g c = show_lives g.T.Tape
