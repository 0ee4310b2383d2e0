use Rattle.std.proofs.Common.{sym, arith}
use Rattle.wf_tape.proofs.Fuses.{no_fuse, fuse_later}
use Rattle.wf_tape.proofs.memory.fuse_at.Goals as goal

pub returns-then-call-eq0 : goal.returns-then-call-eq0
returns-then-call-eq0 c = sym (no_fuse c.args.call c.args.kept (omega (arith, c.if-call-eq0.true)))

pub returns : goal.returns
returns c = sym (fuse_later c.args.call c.args.kept (λ e. omega (arith, e, c.if-call-eq0.false)))
