-- Each delivery is one event more, on the farm that those before it left, which is one world.
use Rattle.std.proofs.Common.{◌∙◌, arith, refl}
use Rattle.wf_play.proofs.Carried.{all_delivered, none_so_far, one_failed, one_more}
use Rattle.wf_play.proofs.message_orders.deliver_in_turn.Goals as goal

pub loop-message-init : goal.loop-message-init
loop-message-init g c = none_so_far c.args.node c.args.messages.now c.args.farm.now

pub loop-message-preserved : goal.loop-message-preserved
loop-message-preserved g c =
    one_more c.args.node c.args.messages.now c.loop-message.message-index _ 0 c.args.farm.now c.loop-message.farm c.deliver_by.new.self c.loop-message.invariant
    (omega arith) refl (c.agree.ensures.world (c.loop-message.invariant.complete ∙ c.requires)) c.in_default.ensures.done c.deliver_by.ensures.refused c.deliver_by.ensures.pumped c.deliver_by.ensures.complete
    c.deliver_by.ensures.size c.deliver_by.ensures.grows

pub returns-clause-does : goal.returns-clause-does
returns-clause-does g c = all_delivered c.args.node c.args.messages.now c.loop-message.message-index c.args.farm.now c.loop-message.farm (omega arith) c.loop-message.invariant

pub returns-clause-plays : goal.returns-clause-plays
returns-clause-plays g c = c.loop-message.invariant.plays

pub returns-in-Err-clause-plays : goal.returns-in-Err-clause-plays
returns-in-Err-clause-plays g c =
    one_failed c.args.node c.args.messages.now c.loop-message.message-index c.args.farm.now c.loop-message.farm c.deliver_by.new.self c.loop-message.invariant
    (c.agree.ensures.world (c.loop-message.invariant.complete ∙ c.requires)) c.in-Err.ensures.stays c.deliver_by.ensures.size c.deliver_by.ensures.grows
