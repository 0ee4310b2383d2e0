use Rattle.std.proofs.Common.{sym, arith}
use Rattle.wf_tape.proofs.Fuses.{burns_now, burns_later}
use Rattle.wf_tape.proofs.memory.burn_at.Goals as goal

pub returns-then-before-eq0 : goal.returns-then-before-eq0
returns-then-before-eq0 c = sym (burns_now c.args.before c.args.kept (omega (arith, c.if-before-eq0.true)))

pub returns-else-before-eq0 : goal.returns-else-before-eq0
returns-else-before-eq0 c = sym (burns_later c.args.before c.args.kept (λ e. omega (arith, e, c.if-before-eq0.false)))
