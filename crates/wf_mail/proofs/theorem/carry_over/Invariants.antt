use Rattle.std.proofs.Common.{◌≡◌, length}
use Rattle.wf_mail.specs.Receiver.{taken, IsOpen}
use Rattle.wf_mail.proofs.theorem.carry_over.Given as goal

abbrev pub invariant-loop-outbox : goal.invariant-loop-outbox
invariant-loop-outbox l = IsOpen l.receiver × (taken l.receiver ≡ l.outbox.written) × (l.outbox.put ≡ l.initial.outbox.put)

abbrev pub decreases-loop-outbox : goal.decreases-loop-outbox
decreases-loop-outbox l = length l.outbox.waiting
