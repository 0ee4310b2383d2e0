use Rattle.wf_text.specs.NumberText.{magnitude_text}
use Rattle.wf_text.proofs.NumberWriteSequences.{both}
use Rattle.wf_text.proofs.number_text.push_magnitude.Goals as goal

pub returns : goal.returns
unfolding magnitude_text
returns c = both c.push_whole.ensures c.push_fraction.ensures
