use Rattle.wf_runs.proofs.Runs.{runs_agree, new_run_agrees}
use Rattle.wf_runs.proofs.theorem.runs_are_one_farm.Goals as goal

pub returns-clause-files : goal.returns-clause-files
returns-clause-files g c = runs_agree g.M.Tape g.F.Tape c.sessions_are_one_farm.ensures

pub returns-clause-memory : goal.returns-clause-memory
returns-clause-memory g c = new_run_agrees g.M.Tape g.F.Tape c.sessions_are_one_farm-2.ensures
