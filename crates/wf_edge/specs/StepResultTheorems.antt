-- What a node promises of its step is its result.
use Rattle.std.proofs.Common.{◌≡◌, ◌≢◌, ◌∙◌, ◌++◌, true, false, Vec, IsSome, sym, subst}
use Rattle.std.specs.Prelude.{Result, Err, IfOk, IfErr, OnOk}
use Rattle.wf_codec.specs.declared.message.Message.{Message}
use Rattle.wf_def.specs.Definition.{Definition}
use Rattle.wf_model.specs.Table.{Input}
use Rattle.wf_node.specs.Fault.{rejected_by}
use Rattle.wf_node.specs.Images.{EachStandsFor}
use Rattle.wf_node.specs.Node.{Node, stored_of, IsOnTape}
use Rattle.wf_node.specs.Step.{IsTransition, IsSameNode, TakesMemory, entry_of, transition_of, step_rejection_at, stored_next}
use Rattle.wf_node.specs.TapeWrites.{bytes_of}
use Rattle.wf_node.specs.declared.fault.NodeFault.{NodeFault}
use Rattle.wf_node.specs.declared.fault.NodeFault.TheVariants as fault
use Rattle.wf_tape.specs.Tape.{IsUnchanged, IsExtended, HasRisen}
use Rattle.wf_tape.specs.declared.tape.Tape.{Ghosts as Tape}
use Rattle.wf_edge.specs.StepResult.{IsStepResult}

module _ {T A : Type 0} (tapes : Tape T) (before after : Node T) (input : Input Definition) where
  not_halted : (answer : Result (Vec Message A) NodeFault) → (answer ≡ Err fault.Halted → before.halted ≡ true) → before.halted ≡ false → answer ≢ Err fault.Halted
  not_halted answer halts runs is = let both : true ≡ false = sym (halts is) ∙ runs in cc

  stays : (answer : Result (Vec Message A) NodeFault) → answer ≡ Err fault.Halted
      → IfErr answer (λ why. why ≢ fault.Memory → why ≢ fault.TapeFailed → after ≡ before) → after ≡ before
  stays answer is unchanged =
      let here : fault.Halted ≢ fault.Memory → fault.Halted ≢ fault.TapeFailed → after ≡ before =
      subst (λ r. IfErr r (λ why. why ≢ fault.Memory → why ≢ fault.TapeFailed → after ≡ before)) is unchanged in
      here (λ e. cc) (λ e. cc)

  pub answered : (answer : Result (Vec Message A) NodeFault)
      → (before.halted ≡ true → answer ≡ Err fault.Halted)
      → (answer ≡ Err fault.Halted → before.halted ≡ true)
      → (before.halted ≡ false → rejected_by answer ≡ step_rejection_at before input)
      → IfOk answer (λ messages. IsTransition before (transition_of before input) messages.items after)
      → (tapes.durable → OnOk answer (IsOnTape tapes after))
      → (tapes.durable → OnOk answer (tapes.content after.tape ≡ tapes.content before.tape ++ bytes_of (entry_of before input)))
      → IfErr answer (λ why. why ≢ fault.Memory → why ≢ fault.TapeFailed → after ≡ before)
      → IfErr answer (λ why. IsSameNode before after)
      → (answer ≡ Err fault.Memory → after.halted ≡ false)
      → (tapes.durable → answer ≡ Err fault.Memory → IsUnchanged (tapes.content before.tape) (tapes.content after.tape) (tapes.images before.tape) (tapes.images after.tape))
      → (answer ≡ Err fault.Memory → TakesMemory before input)
      → (answer ≡ Err fault.TapeFailed → HasRisen (tapes.failed before.tape) (tapes.failed after.tape))
      → (answer ≡ Err fault.TapeFailed → IsSome (entry_of before input))
      → (answer ≡ Err fault.TapeFailed → after.halted ≡ true)
      → (answer ≡ Err fault.TapeFailed → after.failed ≡ entry_of before input)
      → (tapes.durable → answer ≡ Err fault.TapeFailed → IsExtended (tapes.content before.tape) (bytes_of (entry_of before input)) (tapes.content after.tape))
      → (tapes.durable → answer ≡ Err fault.TapeFailed → EachStandsFor (stored_of before) (stored_next before input) (tapes.images after.tape))
      → (tapes.never_fails before.tape → tapes.never_fails after.tape)
      → (tapes.never_fails before.tape → IfErr answer (λ why. why ≢ fault.TapeFailed))
      → IsStepResult tapes input before answer after
  answered answer halted running refused transition on_tape grown unchanged same memory same_tape takes failed writes halts kept part torn sturdy sound = record {
    refused = λ is. (halted is, stays answer (halted is) unchanged);
    steps = λ is. record {
      running = not_halted answer running is;
      refused = refused is;
      done = transition;
      on_tape = on_tape;
      grown = grown;
      unchanged = unchanged;
      same = same;
      still_running = memory;
      same_tape = same_tape;
      takes = takes;
      failed = failed;
      writes = writes;
      halts = halts;
      kept = kept;
      part = part;
      torn = torn;
    };
    sturdy = sturdy;
    sound = sound;
  }
