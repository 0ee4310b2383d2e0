-- A node that is open on a shortened tape.
use Rattle.std.proofs.Common.{◌≡◌, ◌∙◌, Bool, false, sym, ap, subst}
use Rattle.std.specs.Prelude.{Result, Ok, Err, IfOk}
use Rattle.wf_def.specs.Definition.{Definition}
use Rattle.wf_model.specs.DurableState.{DurableState}
use Rattle.wf_model.specs.VolatileState.{at_start}
use Rattle.wf_node.specs.Images.{AllStandFor, StandsFor}
use Rattle.wf_node.specs.Node.{Node, stored_of, volatile_of}
use Rattle.wf_node.specs.OpenedNode.{IsFoldOf, IsRead}
use Rattle.wf_serve.specs.OpenedNodes.{WasRead}
use Rattle.wf_serve.specs.Compaction.{IsOpenOnTape, IsShort}
use Rattle.wf_tape.specs.declared.tape.Tape.{Ghosts as Tape}

-- a node that is unchanged but for its tape stands as it did when it opened
pub opened_again : {T E : Type 0} (tapes : Tape T) (tape : T) (node : Node T) (result : Result (Node T × Bool) E) →
    node.halted ≡ false → volatile_of node ≡ at_start → (tapes.durable → IsFoldOf (stored_of node) (tapes.content tape)) →
    IfOk result (λ x. x.0 ≡ record node { tape = x.0.tape; failed = x.0.failed }) → (tapes.durable → IfOk result (λ x. IsShort tapes x.0 x.1)) →
    (tapes.durable → IfOk result (λ x. AllStandFor (stored_of node) (tapes.images x.0.tape))) → IfOk result (λ x. IsOpenOnTape tapes tape x.0 x.1)
opened_again tapes tape node (Err e) running volatile stored same short stands = tt
opened_again {T} tapes tape node (Ok (after, is_short)) running volatile stored same short stands =
    let part : stored_of after ≡ stored_of node = ap (λ (m : Node T). stored_of m) same in
    record {
      running = ap (λ (m : Node T). m.halted) same ∙ running;
      volatile = ap (λ (m : Node T). volatile_of m) same ∙ volatile;
      stored = λ h. subst (λ (s : DurableState Definition). IsFoldOf s (tapes.content tape)) (sym part) (stored h);
      stands = λ h. subst (λ (s : DurableState Definition). AllStandFor s (tapes.images after.tape)) (sym part) (stands h);
      short = short;
    }

-- and has stored what the bytes stand for that were read when it opened
pub read_again : {T E : Type 0} (tapes : Tape T) (tape : T) (node : Node T) (result : Result (Node T × Bool) E) → node.halted ≡ false → volatile_of node ≡ at_start →
    IsRead tapes.durable (tapes.content tape) (stored_of node) → IfOk result (λ x. x.0 ≡ record node { tape = x.0.tape; failed = x.0.failed }) → IfOk result (λ x. WasRead x.0)
read_again tapes tape node (Err e) running volatile found same = tt
read_again {T} tapes tape node (Ok (after, is_short)) running volatile found same = record {
  bytes = found.bytes;
  runs = ap (λ (m : Node T). m.halted) same ∙ running;
  idle = ap (λ (m : Node T). volatile_of m) same ∙ volatile;
  stored = subst (λ (s : DurableState Definition). StandsFor s found.bytes) (sym (ap (λ (m : Node T). stored_of m) same))
      (record { records = found.folds.records; reads = (found.folds.rest, found.folds.tape.reads); folds = found.folds.folds });
}
