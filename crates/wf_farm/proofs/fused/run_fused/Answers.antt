-- The farm begins at the start.
use Rattle.std.proofs.Common.{◌∙◌}
use Rattle.wf_farm.proofs.Common.{start, Moves}
use Rattle.wf_farm.proofs.fused.run_fused.Goals as goal

pub returns-in-Ok-run_failing-clause-done : goal.returns-in-Ok-run_failing-clause-done
unfolding Moves
returns-in-Ok-run_failing-clause-done c = c.in-Ok-run_failing.ensures.done.runs (start c.args.n) c.in-Ok.ensures.start

pub returns-in-Ok-run_failing-clause-torn : goal.returns-in-Ok-run_failing-clause-torn
returns-in-Ok-run_failing-clause-torn c = c.in-Ok-run_failing.ensures.done.step

pub returns-in-Ok-run_failing-clause-size : goal.returns-in-Ok-run_failing-clause-size
returns-in-Ok-run_failing-clause-size c = c.in-Ok-run_failing.ensures.size ∙ c.in-Ok.ensures.size
