use Rattle.std.proofs.Common.{◌≡◌, ◌++◌, subst}
use Rattle.wf_mail.specs.Mail.{spelled}
use Rattle.wf_mail.specs.Outbox.{OutboxState}
use Rattle.wf_mail.proofs.Outboxes.{spells}
use Rattle.wf_mail.proofs.outbox.Outbox.always_spells.Goals as goal

pub returns-clause-spells : goal.returns-clause-spells
returns-clause-spells c =
    let i = c.self.inside in
    subst (λ (o : OutboxState). o.written ++ o.waiting ≡ spelled o.put) c.self.view_is (spells i.log.items i.front.items i.done i.queue.items i.limit c.self.invariant)
