-- The tape is the same but for the failure that is set, so what it stands for is too.
use Rattle.std.proofs.Common.{◌≡◌, sym, subst, ap, ◌∙◌}
use Rattle.wf_journal.specs.Journal.{Journal}
use Rattle.wf_tape.specs.MemoryTape as memory
use Rattle.wf_tape.specs.MemoryTape.{IsImageNow, with_fuse}
use Rattle.wf_node.specs.Images.{AllStandFor}
use Rattle.wf_node.specs.DurablePart.{stored_of}
use Rattle.wf_node.specs.Node.{Node, view_of}
use Rattle.wf_node.proofs.node.Node+MemoryTape.set_fuse.Goals as goal

pub invariant_of-self : goal.invariant_of-self
invariant_of-self c = record {
  same_node = c.self.invariant.same_node;
  for_next = c.self.invariant.for_next;
  stands = λ durable running.
      subst (λ (tape : memory.TapeValue). AllStandFor (stored_of c.self.inside.machine.persistent) (IsImageNow tape)) (sym (ap (λ (j : Journal memory.TapeValue). j.tape) c.set_fuse.ensures))
      (c.self.invariant.stands durable (sym (ap (λ (j : Journal memory.TapeValue). j.halted) c.set_fuse.ensures) ∙ running));
}

pub returns : goal.returns
returns c =
    subst (λ (before : Node memory.TapeValue). view_of c.set_fuse.new.self c.self.inside.machine.persistent.parts c.self.inside.machine.proposer ≡ record before { tape = with_fuse c.args.call c.args.kept before.tape }) c.self.view_is
    (λ i. view_of (c.set_fuse.ensures i) c.self.inside.machine.persistent.parts c.self.inside.machine.proposer)
