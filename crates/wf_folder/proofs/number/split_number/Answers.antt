-- Bytes that begin with a number's digits have eight in front that are these.
use Rattle.std.proofs.Common.{◌∙◌}
use Rattle.wf_folder.proofs.Numbers.{number_front}
use Rattle.wf_folder.proofs.number.split_number.Goals as goal

pub returns-in-None-clause-none : goal.returns-in-None-clause-none
returns-in-None-clause-none c = λ n rest fits e. c.in-None.ensures.none n fits (c.split_at.ensures.front ∙ number_front n c.args.bytes.now rest e)
