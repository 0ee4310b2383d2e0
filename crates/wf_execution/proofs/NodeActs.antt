-- A step of a node is one of the things that a node does with an input.
use Rattle.std.proofs.Common.{◌≡◌, true, false, ◌++◌, Ok, Err, Vec, IfOk, IfErr, OnOk}
use Rattle.std.specs.Prelude.{Result, ◌≢◌, IsSome}
use Rattle.std.specs.declared.alloc.Global.{Global}
use Rattle.std.proofs.lemmas.Bool.{both_ways}
use Rattle.wf_codec.specs.declared.message.Message.{Message}
use Rattle.wf_node.specs.Fault.{rejected_by}
use Rattle.wf_node.specs.Images.{EachStandsFor}
use Rattle.wf_node.specs.Input.{view}
use Rattle.wf_node.specs.Node.{Node, stored_of, IsOnTape}
use Rattle.wf_node.specs.Step.{transition_of, entry_of, stored_next, step_rejection_at, IsTransition, IsSameNode, TakesMemory}
use Rattle.wf_node.specs.TapeWrites.{bytes_of}
use Rattle.wf_node.specs.declared.fault.NodeFault.{NodeFault}
use Rattle.wf_node.specs.declared.fault.NodeFault.TheVariants.{Memory, Halted, TapeFailed}
use Rattle.wf_tape.specs.Change.{Stays, HasFailed}
use Rattle.wf_tape.specs.Tape.{IsExtended}
use Rattle.wf_delivery.proofs.Outcomes.{step_is_answered}
use Rattle.wf_delivery.specs.Outcome.{is_lost}
use Rattle.wf_delivery.specs.NodeInput.{Takes}
use Rattle.wf_delivery.specs.Reachability.{outputs_by}
use Rattle.wf_tape.specs.declared.tape.Tape.{Ghosts as Tape}
use Rattle.wf_execution.specs.Run.{Input}

-- a halted node that rejects is unchanged
unchanged_halted : {T : Type 0} (before after : Node T) (result : Result (Vec Message Global) NodeFault) → result ≡ Err Halted →
    IfErr result (λ fault. fault ≢ Memory → fault ≢ TapeFailed → after ≡ before) → after ≡ before
unchanged_halted before after (Ok outputs) is unchanged = absurd cc
unchanged_halted before after (Err fault) is unchanged = let it : fault ≡ Halted = cc in unchanged (λ e. absurd (cc e)) (λ e. absurd (cc e))

module _ {T : Type 0} (tapes : Tape T) (before after : Node T) (input : Input) (result : Result (Vec Message Global) NodeFault) where
  pub step_takes : (before.halted ≡ true → result ≡ Err Halted) → (result ≡ Err Halted → before.halted ≡ true) → (before.halted ≡ false → rejected_by result ≡ step_rejection_at before (view input)) →
      IfOk result (λ messages. IsTransition before (transition_of before (view input)) messages.items after) → (tapes.durable → OnOk result (IsOnTape tapes after)) →
      (tapes.durable → OnOk result (tapes.content after.tape ≡ tapes.content before.tape ++ bytes_of (entry_of before (view input)))) →
      IfErr result (λ fault. fault ≢ Memory → fault ≢ TapeFailed → after ≡ before) → IfErr result (λ fault. IsSameNode before after) → (result ≡ Err Memory → after.halted ≡ false) →
      (tapes.durable → result ≡ Err Memory → Stays tapes before.tape after.tape) → (result ≡ Err Memory → TakesMemory before (view input)) → (result ≡ Err TapeFailed → HasFailed tapes before.tape after.tape) →
      (result ≡ Err TapeFailed → IsSome (entry_of before (view input))) → (result ≡ Err TapeFailed → after.halted ≡ true) →
      (result ≡ Err TapeFailed → after.failed ≡ entry_of before (view input)) →
      (tapes.durable → result ≡ Err TapeFailed → IsExtended (tapes.content before.tape) (bytes_of (entry_of before (view input))) (tapes.content after.tape)) →
      (tapes.durable → result ≡ Err TapeFailed → EachStandsFor (stored_of before) (stored_next before (view input)) (tapes.images after.tape)) →
      Takes tapes (is_lost result) (view input) before after (outputs_by result)
  step_takes halted running refused transition on_tape content unchanged same memory same_tape takes failed writes halts kept part torn =
      step_is_answered tapes before after (view input) result (λ is. (halted is, unchanged_halted before after result (halted is) unchanged))
      (λ runs. record {
        running = λ is. absurd (both_ways before.halted runs (running is));
        refused = refused runs;
        done = transition;
        on_tape = on_tape;
        grown = content;
        unchanged = unchanged;
        same = same;
        still_running = memory;
        same_tape = same_tape;
        takes = takes;
        failed = failed;
        writes = writes;
        halts = halts;
        kept = kept;
        part = part;
        torn = torn;
      })
