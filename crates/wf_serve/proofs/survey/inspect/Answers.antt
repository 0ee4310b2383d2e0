-- The tapes are looked for after the file `farm` was read.
use Rattle.wf_serve.proofs.Surveyed.{unlooked}
use Rattle.wf_serve.proofs.survey.inspect.Goals as goal

pub returns-in-Err-look_for_tapes-clause-cause : goal.returns-in-Err-look_for_tapes-clause-cause
returns-in-Err-look_for_tapes-clause-cause g c = unlooked c.in-Err-look_for_tapes.fault _ _ _ c.find_farm.ensures.reads c.in-Err-look_for_tapes.ensures.cause
