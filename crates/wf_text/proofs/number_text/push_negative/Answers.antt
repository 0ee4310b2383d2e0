use Rattle.wf_text.proofs.NumberWriteSequences.{both}
use Rattle.wf_text.proofs.number_text.push_negative.Goals as goal

pub returns : goal.returns
returns c = both c.push.ensures c.push_magnitude.ensures
