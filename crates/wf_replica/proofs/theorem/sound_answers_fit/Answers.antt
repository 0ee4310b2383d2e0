use Rattle.wf_replica.proofs.Fitting.{sound_answers_fit}
use Rattle.wf_replica.proofs.theorem.sound_answers_fit.Goals as goal

pub returns : goal.returns
returns c = sound_answers_fit
