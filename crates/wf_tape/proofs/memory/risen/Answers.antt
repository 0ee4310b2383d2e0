use Rattle.std.proofs.Common.{sym, arith}
use Rattle.wf_tape.proofs.Fuses.{stays_highest, rises}
use Rattle.wf_tape.proofs.memory.risen.Goals as goal

pub returns-then-count-eq18446744073709551615 : goal.returns-then-count-eq18446744073709551615
returns-then-count-eq18446744073709551615 c = sym (stays_highest c.args.count (omega (arith, c.if-count-eq18446744073709551615.true)))

pub returns-else-count-eq18446744073709551615 : goal.returns-else-count-eq18446744073709551615
returns-else-count-eq18446744073709551615 c = sym (rises c.args.count (λ e. omega (arith, e, c.if-count-eq18446744073709551615.false)))
