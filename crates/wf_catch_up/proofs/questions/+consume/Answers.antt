-- The first message is lost, or the others are heard after it.
use Rattle.std.proofs.Common.{arith, subst}
use Rattle.wf_catch_up.proofs.Common.{HasReceived}
use Rattle.wf_catch_up.proofs.Asked.{received_lost, received_more, received_none, range_rest}
use Rattle.wf_catch_up.proofs.questions.+consume.Goals as goal

pub returns-then-deliver-clause-receives : goal.returns-then-deliver-clause-receives
returns-then-deliver-clause-receives g t c =
    received_lost g.T.Tape c.args.messages.now c.first-item.result c.args.node.now c.deliver.new.node (omega (arith, c.in-len1-up.len_at_least)) c.first-item.is c.if-deliver.ensures.taken

pub returns-in-empty-clause-receives : goal.returns-in-empty-clause-receives
returns-in-empty-clause-receives g t c = received_none g.T.Tape c.args.messages.now c.args.node.now (omega (arith, c.in-empty.len_below))

pub returns-else-deliver-clause-receives : goal.returns-else-deliver-clause-receives
returns-else-deliver-clause-receives g t c =
    received_more g.T.Tape c.args.messages.now c.first-item.result c.consume.result c.args.node.now c.deliver.new.node c.consume.new.node (omega (arith, c.in-len1-up.len_at_least)) c.first-item.is c.if-deliver.ensures.taken
    (subst (λ ms. HasReceived g.T.Tape ms c.consume.result c.deliver.new.node c.consume.new.node) (range_rest c.args.messages.now) c.consume.ensures.receives)
