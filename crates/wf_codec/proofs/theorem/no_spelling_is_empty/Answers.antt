use Rattle.wf_codec.proofs.Validated.{none_is_empty}
use Rattle.wf_codec.proofs.theorem.no_spelling_is_empty.Goals as goal

pub returns : goal.returns
returns c = none_is_empty
