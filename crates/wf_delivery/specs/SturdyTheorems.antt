-- A node whose tape won't fail isn't halted by a step.
use Rattle.std.proofs.Common.{◌≡◌, ◌≢◌, true, false, Result, Ok, Err, IfOk, IfErr, refl, sym, ap, subst, ◌∙◌, Vec}
use Rattle.wf_delivery.specs.Common.{both_ways, Message, Definition, Input, Node, IsTransition, IsStep, transition_of, NodeFault}
use Rattle.wf_node.specs.declared.fault.NodeFault.TheVariants as fault
use Rattle.wf_delivery.specs.NodeInput.{IsSturdy}
use Rattle.wf_tape.specs.declared.tape.Tape.{Ghosts as Tape}

module _ {T A : Type 0} (tapes : Tape T) (before after : Node T) (input : Input Definition) where
  pub still_runs : (result : Result (Vec Message A) NodeFault) → (result ≡ Err fault.Halted → before.halted ≡ true) → IfOk result (λ outputs. IsTransition before (transition_of before input) outputs.items after) →
      IfErr result (λ f. f ≢ fault.Memory → f ≢ fault.TapeFailed → after ≡ before) → (result ≡ Err fault.Memory → after.halted ≡ false) → IfErr result (λ f. f ≢ fault.TapeFailed) → before.halted ≡ false → after.halted ≡ false
  still_runs (Ok outputs) halted transition unchanged memory sound runs = transition.running
  still_runs (Err fault.Memory) halted transition unchanged memory sound runs = memory refl
  still_runs (Err fault.Busy) halted transition unchanged memory sound runs = ap (λ (x : Node T). x.halted) (unchanged (λ e. cc) (λ e. cc)) ∙ runs
  still_runs (Err fault.SequenceFull) halted transition unchanged memory sound runs = ap (λ (x : Node T). x.halted) (unchanged (λ e. cc) (λ e. cc)) ∙ runs
  still_runs (Err fault.RoundsFull) halted transition unchanged memory sound runs = ap (λ (x : Node T). x.halted) (unchanged (λ e. cc) (λ e. cc)) ∙ runs
  still_runs (Err fault.Halted) halted transition unchanged memory sound runs = absurd (both_ways before.halted runs (halted refl))
  still_runs (Err fault.TapeFailed) halted transition unchanged memory sound runs = absurd (sound refl)
  still_runs (Err fault.Nothing) halted transition unchanged memory sound runs = ap (λ (x : Node T). x.halted) (unchanged (λ e. cc) (λ e. cc)) ∙ runs

  -- by the clauses of a step
  pub any_sturdy : (result : Result (Vec Message A) NodeFault) → (result ≡ Err fault.Halted → before.halted ≡ true) → IfOk result (λ outputs. IsTransition before (transition_of before input) outputs.items after) →
      IfErr result (λ f. f ≢ fault.Memory → f ≢ fault.TapeFailed → after ≡ before) → (result ≡ Err fault.Memory → after.halted ≡ false) →
      (tapes.never_fails before.tape → tapes.never_fails after.tape) → (tapes.never_fails before.tape → IfErr result (λ f. f ≢ fault.TapeFailed)) → IsSturdy tapes before after
  any_sturdy result halted transition unchanged memory sturdy sound = λ never runs. (still_runs result halted transition unchanged memory (sound never) runs, sturdy never)

  -- by what is known of a step
  pub step_sturdy : (result : Result (Vec Message A) NodeFault) → (before.halted ≡ false → IsStep tapes before input result after) →
      (tapes.never_fails before.tape → tapes.never_fails after.tape) → (tapes.never_fails before.tape → IfErr result (λ f. f ≢ fault.TapeFailed)) → IsSturdy tapes before after
  step_sturdy result steps sturdy sound = λ never runs.
      let step = steps runs in
      any_sturdy result (λ is. absurd (step.running is)) step.done step.unchanged step.still_running sturdy sound never runs

-- A node that is unchanged is sturdy.
pub same_sturdy : {T : Type 0} (tapes : Tape T) (before after : Node T) → after ≡ before → IsSturdy tapes before after
same_sturdy {T} tapes before after same = λ never runs. (ap (λ (x : Node T). x.halted) same ∙ runs, subst (λ (x : Node T). tapes.never_fails x.tape) (sym same) never)
