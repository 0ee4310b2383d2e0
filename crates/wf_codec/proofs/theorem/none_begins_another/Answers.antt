use Rattle.wf_codec.proofs.Validated.{none_begins_another}
use Rattle.wf_codec.proofs.theorem.none_begins_another.Goals as goal

pub returns : goal.returns
returns c = none_begins_another c.one_text_one_map.ensures
