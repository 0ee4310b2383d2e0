use Rattle.wf_histories.proofs.Agreement.{show_what_came}
use Rattle.wf_histories.proofs.theorem.processes_show_what_came.Goals as goal

pub returns : goal.returns
returns g c = show_what_came g.T.Tape
