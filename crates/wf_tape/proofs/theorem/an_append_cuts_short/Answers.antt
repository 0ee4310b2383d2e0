use Rattle.wf_tape.specs.TapeTheorems.{cuts_short}
use Rattle.wf_tape.proofs.theorem.an_append_cuts_short.Goals as goal

pub returns : goal.returns
returns g c = cuts_short g.T.Tape
