use Rattle.wf_histories.proofs.Advance.{act_advances, nothing_advances, run_advances, start_advances}
use Rattle.wf_histories.proofs.theorem.node_processes_go_on.Goals as goal

pub returns-clause-nothing : goal.returns-clause-nothing
returns-clause-nothing g c = nothing_advances g.T.Tape

pub returns-clause-start : goal.returns-clause-start
returns-clause-start g c = start_advances g.T.Tape

pub returns-clause-act : goal.returns-clause-act
returns-clause-act g c = act_advances g.T.Tape

pub returns-clause-run : goal.returns-clause-run
returns-clause-run g c = run_advances g.T.Tape
