use Rattle.std.proofs.Common.{[], ap, ◌∙◌}
use Rattle.wf_mail.specs.Receiver.{logged, with_inbox}
use Rattle.wf_mail.proofs.Received.{new_is_receiver}
use Rattle.wf_mail.proofs.receiver.Receiver.new.Goals as goal

pub invariant_of-result : goal.invariant_of-result
invariant_of-result c = new_is_receiver c.new-2.result.items c.new.result c.new-2.ensures c.new.ensures

pub returns : goal.returns
returns c = ap (λ l. with_inbox (logged l) c.new.result) c.new-2.ensures ∙ ap (with_inbox []) c.new.ensures
