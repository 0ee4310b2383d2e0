use Rattle.wf_replacement.proofs.Others.{asked_are_others}
use Rattle.wf_replacement.proofs.asked_are_others.Goals as goal

pub returns : goal.returns
returns g c = asked_are_others g.T.Tape
