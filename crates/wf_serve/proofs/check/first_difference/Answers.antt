-- All sequences of the first history were compared.
use Rattle.std.proofs.Common.{arith}
use Rattle.wf_serve.proofs.Difference.{all_agree}
use Rattle.wf_serve.proofs.check.first_difference.Goals as goal

pub returns-clause-none : goal.returns-clause-none
returns-clause-none c =
    all_agree c.args.first.now.definitions c.args.second.now.definitions c.loop-number.number (omega (arith, c.loop-number-test.false, c.published.ensures.value, c.number-number-end.ensures.value))
    c.loop-number.invariant
