use Rattle.wf_text.specs.NumberTextTheorems.{number_text_short}
use Rattle.wf_text.proofs.NumberWriteSequences.{whole_text}
use Rattle.wf_text.proofs.number_text.NumberText.of.Goals as goal

pub returns : goal.returns
returns c = whole_text c.new-bytes.ensures c.push_number.ensures (number_text_short c.args.number c.millionths.ensures.within)
