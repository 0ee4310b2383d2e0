use Rattle.wf_codec.proofs.Validated.{one_spelling}
use Rattle.wf_codec.proofs.theorem.one_spelling.Goals as goal

pub returns : goal.returns
returns c = one_spelling
