use Rattle.std.proofs.Common.{sym, ap, ◌∙◌}
use Rattle.wf_tape.specs.Fuse.{burn}
use Rattle.wf_tape.proofs.memory.burn.Goals as goal

pub returns-in-None : goal.returns-in-None
unfolding burn
returns-in-None c = sym (ap burn c.in-None.is)

pub returns-in-Some : goal.returns-in-Some
unfolding burn
returns-in-Some c = c.burn_at.ensures ∙ sym (ap burn c.in-Some.is)
