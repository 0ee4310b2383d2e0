use Rattle.wf_replica.proofs.Telling.{heard_are_reported, read_are_reported}
use Rattle.wf_replica.proofs.theorem.what_is_heard_is_reported.Goals as goal

pub returns-clause-heard : goal.returns-clause-heard
returns-clause-heard g c = heard_are_reported

pub returns-clause-read : goal.returns-clause-read
returns-clause-read g c = read_are_reported
