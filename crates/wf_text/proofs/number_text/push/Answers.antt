use Rattle.wf_text.proofs.NumberWriteSequences.{pushed}
use Rattle.wf_text.proofs.number_text.push.Goals as goal

pub returns : goal.returns
returns c = pushed c.extend.ensures
