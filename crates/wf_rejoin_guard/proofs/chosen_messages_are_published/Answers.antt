use Rattle.wf_rejoin_guard.proofs.Reports.{chosen_published}
use Rattle.wf_rejoin_guard.proofs.chosen_messages_are_published.Goals as goal

pub returns : goal.returns
returns g c = chosen_published g.T.Tape c.records_fit.ensures
