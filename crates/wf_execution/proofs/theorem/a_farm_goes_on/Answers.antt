use Rattle.wf_execution.proofs.Continuation.{nothing_is_a_farm, start_goes_on, step_goes_on, end_goes_on}
use Rattle.wf_execution.proofs.theorem.a_farm_goes_on.Goals as goal

pub returns-clause-nothing : goal.returns-clause-nothing
returns-clause-nothing g c = nothing_is_a_farm g.T.Tape

pub returns-clause-start : goal.returns-clause-start
returns-clause-start g c = start_goes_on g.T.Tape

pub returns-clause-step : goal.returns-clause-step
returns-clause-step g c = step_goes_on g.T.Tape

pub returns-clause-end : goal.returns-clause-end
returns-clause-end g c = end_goes_on g.T.Tape
