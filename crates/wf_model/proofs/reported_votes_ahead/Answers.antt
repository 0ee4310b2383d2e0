use Rattle.wf_model.proofs.Runs.{reported_ahead_asks, reported_ahead_stands}
use Rattle.wf_model.proofs.reported_votes_ahead.Goals as goal

pub returns : goal.returns
returns c = record { asked = reported_ahead_asks; proposal = reported_ahead_stands }
