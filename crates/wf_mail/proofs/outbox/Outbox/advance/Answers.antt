use Rattle.wf_mail.proofs.Outboxes.{stays_outbox, advanced}
use Rattle.wf_mail.proofs.outbox.Outbox.advance.Goals as goal

pub invariant_of-self : goal.invariant_of-self
invariant_of-self c =
    let i = c.self.inside in
    stays_outbox i.log.items i.front.items i.done i.queue.items i.limit c.self.invariant c.args.count c.skip.new.front.items c.skip.new.done c.skip.new.queue.items c.skip.ensures.waiting
    c.skip.ensures.within c.skip.ensures.in_turn

pub returns : goal.returns
returns c =
    let i = c.self.inside in
    advanced i.log.items i.front.items i.done i.queue.items i.limit c.self.invariant c.args.count c.skip.new.front.items c.skip.new.done c.skip.new.queue.items c.skip.ensures.waiting _ _ c.args.self.now c.self.view_is
