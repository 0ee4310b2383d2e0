use Rattle.wf_peer.proofs.Reported.{steps_report_no_more}
use Rattle.wf_peer.proofs.theorem.steps_report_no_more.Goals as goal

pub returns : goal.returns
returns g c = steps_report_no_more _ c.records_fit.ensures c.votes_are_promised.ensures
