-- What the tape holds is what it held.
use Rattle.std.proofs.Common.{refl, sym, subst}
use Rattle.wf_journal.specs.Journal.{IsSettled}
use Rattle.wf_tape.specs.MemoryTape.{TapeValue, IsImageNow}
use Rattle.wf_journal.proofs.journal.Journal+MemoryTape.set_fuse.Goals as goal

pub invariant_of-self : goal.invariant_of-self
invariant_of-self c = (
  λ durable running. subst (λ (k : TapeValue). IsSettled k.bytes (IsImageNow k)) (sym c.set_fuse.ensures) (c.self.invariant.0 durable running),
  λ running. refl,
)
