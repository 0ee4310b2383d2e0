use Rattle.std.proofs.Common.{sym, ap, ◌∙◌}
use Rattle.wf_tape.specs.Fuse.{count_down}
use Rattle.wf_tape.proofs.memory.count_down.Goals as goal

pub returns-in-None : goal.returns-in-None
unfolding count_down
returns-in-None c = sym (ap count_down c.in-None.is)

pub returns-in-Some : goal.returns-in-Some
unfolding count_down
returns-in-Some c = c.fuse_at.ensures ∙ sym (ap count_down c.in-Some.is)
