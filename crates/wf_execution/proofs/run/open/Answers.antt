use Rattle.wf_execution.proofs.Start.{run_begins}
use Rattle.wf_execution.proofs.run.open.Goals as goal

pub returns : goal.returns
returns g c = run_begins g.T.Tape c.args.n c.args.id c.args.tape c.open.result c.open.ensures.running c.open.ensures.id c.open.ensures.n c.open.ensures.volatile c.open.ensures.found
