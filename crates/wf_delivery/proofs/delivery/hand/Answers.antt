-- The copy is the message; without one it is lost. A halted node loses nothing.
use Rattle.std.proofs.Common.{subst, sym, ◌∙◌}
use Rattle.wf_delivery.proofs.Common.{Takes}
use Rattle.wf_codec.specs.Message.{view}
use Rattle.wf_model.specs.Table as table
use Rattle.wf_delivery.proofs.Deliveries.{halted_takes, none_few, unheard_takes}
use Rattle.wf_delivery.proofs.delivery.hand.Goals as goal

pub returns-then-is_halted-clause-takes : goal.returns-then-is_halted-clause-takes
returns-then-is_halted-clause-takes g c =
    halted_takes g.T.Tape (table.Deliver (view c.args.message.now)) c.args.node.now c.quiet.result.messages.items c.quiet.ensures.none c.quiet.result.lost c.quiet.ensures.lost
    (sym c.is_halted.ensures ∙ c.if-is_halted.true)

pub returns-then-is_halted-clause-few : goal.returns-then-is_halted-clause-few
returns-then-is_halted-clause-few g c = none_few c.quiet.result.messages.items c.quiet.ensures.none

pub returns-in-Ok-clause-takes : goal.returns-in-Ok-clause-takes
returns-in-Ok-clause-takes g c =
    subst (λ m. Takes g.T.Tape c.consume.result.lost (table.Deliver (view m)) c.args.node.now c.consume.new.node c.consume.result.messages.items) c.in-Ok.ensures.copy c.consume.ensures.takes

pub returns-in-Err-clause-takes : goal.returns-in-Err-clause-takes
returns-in-Err-clause-takes g c =
    unheard_takes g.T.Tape (table.Deliver (view c.args.message.now)) c.args.node.now c.quiet-in-Err.result.messages.items c.quiet-in-Err.ensures.none c.quiet-in-Err.result.lost c.quiet-in-Err.ensures.lost
    (sym c.is_halted.ensures ∙ c.if-is_halted.false)

pub returns-in-Err-clause-few : goal.returns-in-Err-clause-few
returns-in-Err-clause-few g c = none_few c.quiet-in-Err.result.messages.items c.quiet-in-Err.ensures.none
