use Rattle.wf_mail.proofs.WholeMessages.{empty_is_part}
use Rattle.wf_mail.proofs.inbox.Inbox.new.Goals as goal

-- no bytes are part of a message
pub invariant_of-result : goal.invariant_of-result
invariant_of-result c = empty_is_part c.new.result.items c.new.ensures.items
