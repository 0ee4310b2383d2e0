use Rattle.wf_spelling.proofs.WriteSequences.{both}
use Rattle.wf_spelling.proofs.line.push_braced.Goals as goal

pub returns : goal.returns
returns c = both c.push.ensures.bytes (both c.push-2.ensures.bytes c.push-3.ensures.bytes)
