use Rattle.wf_model.proofs.Runs.{late_accept_leaves, late_accept_answers, old_accept_answers, outrun_asks}
use Rattle.wf_model.proofs.rejected_ballots.Goals as goal

pub returns : goal.returns
returns c = record { leaves = late_accept_leaves; accept = late_accept_answers; again = old_accept_answers; prepare = outrun_asks }
