use Rattle.wf_edge.proofs.UnavailableTheorem.{only_these}
use Rattle.wf_edge.proofs.theorem.only_these_are_unavailable.Goals as goal

pub returns : goal.returns
returns g c = only_these _ g.T.Tape
