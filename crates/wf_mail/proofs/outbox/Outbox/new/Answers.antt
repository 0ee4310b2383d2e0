use Rattle.wf_mail.proofs.Outboxes.{new_is_outbox, new_written}
use Rattle.wf_mail.proofs.outbox.Outbox.new.Goals as goal

pub invariant_of-result : goal.invariant_of-result
invariant_of-result c = new_is_outbox c.new-3.result.items c.new.result.items c.new-2.result.items c.args.limit c.new-3.ensures c.new.ensures.items c.new-2.ensures.items

pub returns-clause-written : goal.returns-clause-written
returns-clause-written c = new_written c.new-3.result.items c.new.result.items c.new-2.result.items c.new-3.ensures
