use Rattle.wf_histories.proofs.Told.{replicas_are_told}
use Rattle.wf_histories.proofs.theorem.replicas_are_told.Goals as goal

pub returns : goal.returns
returns g c =
    replicas_are_told g.R.Tape c.what_is_heard_is_reported.ensures.heard c.what_is_heard_is_reported.ensures.read c.what_is_learned_is_served.ensures.learned c.what_is_learned_is_served.ensures.beginning
