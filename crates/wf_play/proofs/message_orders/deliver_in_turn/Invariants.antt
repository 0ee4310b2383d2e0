-- The messages so far are delivered.
use Rattle.wf_play.proofs.Carried.{HaveDelivered}
use Rattle.wf_play.proofs.message_orders.deliver_in_turn.Given as goal

abbrev pub invariant-loop-message : goal.invariant-loop-message
invariant-loop-message g l = HaveDelivered l.node l.messages l.message-index l.fn.farm l.farm
