use Rattle.std.proofs.Common.{ℕ, List, subst}
use Rattle.wf_mail.specs.Stream.{Reads}
use Rattle.wf_mail.specs.Receiver.{logged, came, taken}
use Rattle.wf_mail.proofs.Received.{reads_always}
use Rattle.wf_mail.proofs.receiver.Receiver.always_reads.Goals as goal

pub returns : goal.returns
returns c =
    subst (λ r. (rest : List ℕ) × Reads (taken r) (came r) rest) c.self.view_is
    (reads_always c.self.inside.is_out_of_memory (logged c.self.inside.log.items) c.self.inside.inbox c.self.invariant)
