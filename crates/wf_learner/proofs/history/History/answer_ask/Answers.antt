-- Each iteration appends the message of one more sequence.
use Rattle.std.proofs.Common.{suc, arith}
use Rattle.wf_learner.proofs.Reported.{none_reported, next_reported, all_reported}
use Rattle.wf_learner.proofs.history.History.answer_ask.Goals as goal

pub loop-number-init : goal.loop-number-init
loop-number-init c = λ left sum. none_reported _ _ _ _ left c.new-messages.ensures.items c.number-number.ensures.value sum

pub loop-number-preserved : goal.loop-number-preserved
loop-number-preserved c = λ left sum. next_reported _ _ _ _ left _ c.in_ok-report.ensures.ok (c.loop-number.invariant (suc left) (omega arith))

pub returns-clause-transition : goal.returns-clause-transition
returns-clause-transition c = all_reported _ _ _ _ (c.loop-number.invariant 0 (omega arith))
