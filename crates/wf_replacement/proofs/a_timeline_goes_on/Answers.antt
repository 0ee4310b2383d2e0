use Rattle.wf_replacement.proofs.Continuation.{timeline_goes_on}
use Rattle.wf_replacement.proofs.a_timeline_goes_on.Goals as goal

pub returns : goal.returns
returns g c = timeline_goes_on g.T.Tape
