use Rattle.wf_safety.proofs.Examples.{four_are_enough, four_are_guarded}
use Rattle.wf_safety.proofs.four_are_enough.Goals as goal

pub returns-clause-run : goal.returns-clause-run
returns-clause-run c = four_are_enough

pub returns-clause-guarded : goal.returns-clause-guarded
returns-clause-guarded c = four_are_guarded
