-- A node that was opened begins a run.
use Rattle.std.proofs.Common.{◌≡◌, ◌∙◌, ℕ, false, [], Ok, Err, subst}
use Rattle.std.specs.Prelude.{Result, IfOk}
use Rattle.wf_model.specs.VolatileState.{at_start}
use Rattle.wf_node.specs.Node.{Node, stored_of, volatile_of}
use Rattle.wf_node.specs.OpenedNode.{IsRead}
use Rattle.wf_tape.specs.declared.tape.Tape.{Ghosts as Tape}
use Rattle.wf_execution.specs.Run.{IsOpenedFromTape, IsOpenedFrom}
use Rattle.wf_execution.specs.RunTheorems.{fold_stands}

pub run_begins : {T E : Type 0} (tapes : Tape T) (n i : ℕ) (tape : T) (result : Result (Node T) E) → IfOk result (λ node. node.halted ≡ false) → IfOk result (λ node. node.id ≡ i) →
    IfOk result (λ node. node.n ≡ n) → IfOk result (λ node. volatile_of node ≡ at_start) → IfOk result (λ node. IsRead tapes.durable (tapes.content tape) (stored_of node)) →
    IfOk result (IsOpenedFromTape tapes n i tape)
run_begins tapes n i tape (Ok node) runs own among idle found = record {
  bytes = found.bytes;
  opened = record { id = own; among = among; runs = runs; stored = fold_stands (stored_of node) found.bytes found.folds; idle = idle };
  same = found.same;
}
run_begins tapes n i tape (Err e) runs own among idle found = tt

-- an empty tape that is durable
pub first_run : {T : Type 0} (tapes : Tape T) (n i : ℕ) (tape : T) (node : Node T) → tapes.durable → tapes.content tape ≡ [] → IsOpenedFromTape tapes n i tape node → IsOpenedFrom n i [] node
first_run tapes n i tape node durable empty is = subst (λ bytes. IsOpenedFrom n i bytes node) (is.same durable ∙ empty) is.opened
