use Rattle.std.proofs.Common.{◌∙◌, append_assoc}
use Rattle.wf_check.proofs.message.said.Goals as goal

pub returns-in-Ok-clause-says : goal.returns-in-Ok-clause-says
returns-in-Ok-clause-says c = (c.args.found.now, c.in-Ok.ensures.ok ∙ (simp append_assoc))

pub returns-in-Ok-clause-said : goal.returns-in-Ok-clause-said
returns-in-Ok-clause-said c = (c.args.allowed.now, (c.args.found.now, c.in-Ok.ensures.ok ∙ (simp append_assoc)))
