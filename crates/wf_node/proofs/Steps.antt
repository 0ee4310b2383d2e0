-- The step of a node's parts is the node's step.
use Rattle.std.proofs.Common.{◌≡◌, ℕ, false, ◌++◌, Some, None, Result, Ok, Err, IfOk, IfErr, OnOk, IsSome, Vec, refl, sym, subst, ap, ◌∙◌, arith, inl}
use Rattle.std.proofs.lemmas.Bool.{false≢true}
use Rattle.std.proofs.lemmas.Option.{none-some}
use Rattle.wf_codec.specs.declared.message.Message.{Message}
use Rattle.wf_def.specs.Definition.{Definition}
use Rattle.wf_def.specs.Equality.{definition_eq}
use Rattle.wf_model.specs.Fits.{IsForNext, TransitionFits, RecordsFit}
use Rattle.wf_model.specs.DurableState.{DurableState}
use Rattle.wf_model.specs.Table.{Transition, Input, StepRejection, transition, step_rejection, store}
use Rattle.wf_proposer.specs.Proposer.{Proposer, volatile_of}
use Rattle.wf_journal.specs.Journal.{Journal}
use Rattle.wf_tape.specs.Tape.{IsExtended, LeavesNoOther}
use Rattle.wf_node.specs.declared.fault.NodeFault.{NodeFault}
use Rattle.wf_node.specs.declared.fault.NodeFault.TheVariants.{Memory, Busy, SequenceFull, RoundsFull, Halted, TapeFailed, Nothing}
use Rattle.wf_node.specs.Act.{IsStepAtParts, IsChange, IsRejectedOr, IsSame}
use Rattle.wf_node.specs.Fault.{step_rejection_of, rejected_by}
use Rattle.wf_node.specs.Images.{StandsFor, AllStandFor, EachStandsFor, EachIsCut}
use Rattle.wf_node.specs.DurablePart.{DurablePart}
use Rattle.wf_node.specs.Fault as memory
use Rattle.wf_node.specs.Node.{IsSoundNode, view_of}
use Rattle.wf_node.specs.Parts.{Parts, stored_of}
use Rattle.wf_node.specs.TapeWrites.{bytes_of}
use Rattle.wf_tape.specs.Change.{inside}
use Rattle.wf_node.specs.Step.{IsSameNode, IsStep, transition_of, step_rejection_at, TakesMemory}
use Rattle.wf_node.proofs.Shown.{volatile_shown}
use Rattle.wf_tape.specs.declared.tape.Tape.{Ghosts as Tape}

-- The volatile state of a node's model is its proposer's, so the table's transition and rejection
-- are the same for both.
abbrev proposer_transition : Proposer → Parts → Input Definition → Transition Definition
proposer_transition proposer parts input = transition definition_eq proposer.nodes proposer.node (stored_of parts) (volatile_of proposer) input

module _ {T : Type 0} where
  transition_shown : (journal : Journal T) (parts : Parts) (proposer : Proposer) (input : Input Definition) →
      proposer_transition proposer parts input ≡ transition_of (view_of journal parts proposer) input
  transition_shown journal parts proposer input =
      ap (λ w. transition definition_eq proposer.nodes proposer.node (stored_of parts) w input) (sym (volatile_shown proposer.volatile))

  step_rejection_shown : (journal : Journal T) (parts : Parts) (proposer : Proposer) (input : Input Definition) →
      step_rejection (stored_of parts) (volatile_of proposer) input ≡ step_rejection_at (view_of journal parts proposer) input
  step_rejection_shown journal parts proposer input =
      ap (λ w. step_rejection (stored_of parts) w input) (sym (volatile_shown proposer.volatile))

  takes_shown : (journal : Journal T) (parts : Parts) (proposer : Proposer) (input : Input Definition) →
      memory.TakesMemory (proposer_transition proposer parts input) →
      TakesMemory (view_of journal parts proposer) input
  takes_shown journal parts proposer input =
      subst memory.TakesMemory (transition_shown journal parts proposer input)

module _ {T : Type 0} (tapes : Tape T) where
  abbrev fault_number : {A : Type 0} → Result A NodeFault → ℕ
  fault_number (Ok x) = 0
  fault_number (Err Memory) = 1
  fault_number (Err Busy) = 2
  fault_number (Err SequenceFull) = 3
  fault_number (Err RoundsFull) = 4
  fault_number (Err Halted) = 5
  fault_number (Err TapeFailed) = 6
  fault_number (Err Nothing) = 7

  differ : {A : Type 0} (r s : Result A NodeFault) → (fault_number r ≡ fault_number s → ⊥) → r ≡ s → ⊥
  differ r s numbers e = numbers (ap fault_number e)

  same_view : (journal journal_after : Journal T) (parts parts_after : Parts) (proposer proposer_after : Proposer) → IsSame parts parts_after proposer proposer_after →
      IsSameNode (view_of journal parts proposer) (view_of journal_after parts_after proposer_after)
  same_view journal journal_after parts parts_after proposer proposer_after same = λ i. view_of journal_after (same.parts i) (same.proposer i)

  if_err : {A : Type 0} (result : Result A NodeFault) (P : NodeFault → Type 0) → ((fault : NodeFault) → P fault) → IfErr result P
  if_err (Ok x) P all = tt
  if_err (Err fault) P all = all fault

  -- a rejection isn't a transition
  rejected_if_ok : {A : Type 0} (result : Result A NodeFault) (why : StepRejection) (P : A → Type 0) → rejected_by result ≡ Some why → IfOk result P
  rejected_if_ok (Ok x) why P is = absurd (none-some why is)
  rejected_if_ok (Err fault) why P is = tt

  rejected_on_ok : {A : Type 0} (result : Result A NodeFault) (why : StepRejection) (P : Type 0) → rejected_by result ≡ Some why → OnOk result P
  rejected_on_ok (Ok x) why P is = absurd (none-some why is)
  rejected_on_ok (Err fault) why P is = tt

  rejected_is : {A : Type 0} (result : Result A NodeFault) (why : StepRejection) (fault : NodeFault) → rejected_by result ≡ Some why → rejected_by {A = A} (Err fault) ≡ None → result ≡ Err fault → ⊥
  rejected_is result why fault is none e = none-some why (sym none ∙ sym (ap rejected_by e) ∙ is)

  done_step : {A : Type 0} (journal journal_after : Journal T) (parts parts_after : Parts) (proposer proposer_after : Proposer) (input : Input Definition) (result : Result (Vec Message A) NodeFault) →
      (tapes.durable → AllStandFor (stored_of parts) (tapes.images journal.tape)) →
      step_rejection (stored_of parts) (volatile_of proposer) input ≡ None →
      TransitionFits (stored_of parts) (proposer_transition proposer parts input) →
      IsChange tapes (proposer_transition proposer parts input) journal parts proposer result journal_after parts_after proposer_after →
      IsStep tapes (view_of journal parts proposer) input result (view_of journal_after parts_after proposer_after)
  done_step journal journal_after parts parts_after proposer proposer_after input (Ok messages) stands none fits change = record {
    running = differ _ _ (λ e. omega (arith, e));
    refused = sym (sym (step_rejection_shown journal parts proposer input) ∙ none);
    done = record {
      id = change.1.node;
      n = change.1.nodes;
      running = change.0.running;
      stored = change.1.stored ∙ ap (λ r. store (stored_of parts) r.entry) (transition_shown journal parts proposer input);
      volatile = volatile_shown proposer_after.volatile ∙ (change.1.volatile ∙ ap (λ r. r.volatile) (transition_shown journal parts proposer input));
      messages = change.1.messages ∙ ap (λ r. r.messages) (transition_shown journal parts proposer input);
    };
    on_tape = λ h. subst (λ s. AllStandFor s (tapes.images journal_after.tape)) (sym change.1.stored) (change.0.stored h (stored_of parts) fits.fits (stands h));
    grown = λ h. change.0.grown h ∙ ap (λ r. tapes.content journal.tape ++ bytes_of r.entry) (transition_shown journal parts proposer input);
    unchanged = tt;
    same = tt;
    still_running = λ e. absurd (differ _ _ (λ n. omega (arith, n)) e);
    same_tape = λ h e. absurd (differ _ _ (λ n. omega (arith, n)) e);
    takes = λ e. absurd (differ _ _ (λ n. omega (arith, n)) e);
    failed = λ e. absurd (differ _ _ (λ n. omega (arith, n)) e);
    writes = λ e. absurd (differ _ _ (λ n. omega (arith, n)) e);
    halts = λ e. absurd (differ _ _ (λ n. omega (arith, n)) e);
    kept = λ e. absurd (differ _ _ (λ n. omega (arith, n)) e);
    part = λ h e. absurd (differ _ _ (λ n. omega (arith, n)) e);
    torn = λ h e. absurd (differ _ _ (λ n. omega (arith, n)) e);
  }
  done_step journal journal_after parts parts_after proposer proposer_after input (Err Memory) stands none fits change = record {
    running = differ _ _ (λ e. omega (arith, e));
    refused = sym (sym (step_rejection_shown journal parts proposer input) ∙ none);
    done = tt;
    on_tape = λ h. tt;
    grown = λ h. tt;
    unchanged = λ not_memory not_tape. absurd (not_memory refl);
    same = same_view journal journal_after parts parts_after proposer proposer_after change.1;
    still_running = λ e. change.0.running;
    same_tape = λ h e. change.0.same h;
    takes = λ e. takes_shown journal parts proposer input change.2;
    failed = λ e. absurd (differ _ _ (λ n. omega (arith, n)) e);
    writes = λ e. absurd (differ _ _ (λ n. omega (arith, n)) e);
    halts = λ e. absurd (differ _ _ (λ n. omega (arith, n)) e);
    kept = λ e. absurd (differ _ _ (λ n. omega (arith, n)) e);
    part = λ h e. absurd (differ _ _ (λ n. omega (arith, n)) e);
    torn = λ h e. absurd (differ _ _ (λ n. omega (arith, n)) e);
  }
  done_step journal journal_after parts parts_after proposer proposer_after input (Err TapeFailed) stands none fits change = record {
    running = differ _ _ (λ e. omega (arith, e));
    refused = sym (sym (step_rejection_shown journal parts proposer input) ∙ none);
    done = tt;
    on_tape = λ h. tt;
    grown = λ h. tt;
    unchanged = λ not_memory not_tape. absurd (not_tape refl);
    same = same_view journal journal_after parts parts_after proposer proposer_after change.1;
    still_running = λ e. absurd (differ _ _ (λ n. omega (arith, n)) e);
    same_tape = λ h e. absurd (differ _ _ (λ n. omega (arith, n)) e);
    takes = λ e. absurd (differ _ _ (λ n. omega (arith, n)) e);
    failed = λ e. change.0.risen;
    writes = λ e. subst (λ r. IsSome r.entry) (transition_shown journal parts proposer input) change.0.entry_is;
    halts = λ e. change.0.halted;
    kept = λ e. change.2 ∙ ap (λ r. r.entry) (transition_shown journal parts proposer input);
    part = λ h e. subst (λ r. IsExtended (tapes.content journal.tape) (bytes_of r.entry) (tapes.content journal_after.tape)) (transition_shown journal parts proposer input) (change.0.part h);
    torn = λ h e.
        subst (λ r. EachStandsFor (stored_of parts) (store (stored_of parts) r.entry) (tapes.images journal_after.tape)) (transition_shown journal parts proposer input)
        (change.0.torn h (stored_of parts) fits.fits (stands h));
  }
  done_step journal journal_after parts parts_after proposer proposer_after input (Err Busy) stands none fits change = absurd change
  done_step journal journal_after parts parts_after proposer proposer_after input (Err SequenceFull) stands none fits change = absurd change
  done_step journal journal_after parts parts_after proposer proposer_after input (Err RoundsFull) stands none fits change = absurd change
  done_step journal journal_after parts parts_after proposer proposer_after input (Err Nothing) stands none fits change = absurd change
  done_step journal journal_after parts parts_after proposer proposer_after input (Err Halted) stands none fits change = absurd change

  rejected_step : {A : Type 0} (journal journal_after : Journal T) (parts parts_after : Parts) (proposer proposer_after : Proposer) (input : Input Definition) (result : Result (Vec Message A) NodeFault) (why : StepRejection) →
      step_rejection (stored_of parts) (volatile_of proposer) input ≡ Some why → rejected_by result ≡ Some why → journal_after ≡ journal → IsSame parts parts_after proposer proposer_after →
      IsStep tapes (view_of journal parts proposer) input result (view_of journal_after parts_after proposer_after)
  rejected_step journal journal_after parts parts_after proposer proposer_after input result why is answered same_journal same = record {
    running = rejected_is result why Halted answered refl;
    refused = answered ∙ sym (sym (step_rejection_shown journal parts proposer input) ∙ is);
    done = rejected_if_ok result why _ answered;
    on_tape = λ h. rejected_on_ok result why _ answered;
    grown = λ h. rejected_on_ok result why _ answered;
    unchanged = if_err result _ (λ fault not_memory not_tape. λ i. view_of (same_journal i) (same.parts i) (same.proposer i));
    same = if_err result _ (λ fault. same_view journal journal_after parts parts_after proposer proposer_after same);
    still_running = λ e. absurd (rejected_is result why Memory answered refl e);
    same_tape = λ h e. absurd (rejected_is result why Memory answered refl e);
    takes = λ e. absurd (rejected_is result why Memory answered refl e);
    failed = λ e. absurd (rejected_is result why TapeFailed answered refl e);
    writes = λ e. absurd (rejected_is result why TapeFailed answered refl e);
    halts = λ e. absurd (rejected_is result why TapeFailed answered refl e);
    kept = λ e. absurd (rejected_is result why TapeFailed answered refl e);
    part = λ h e. absurd (rejected_is result why TapeFailed answered refl e);
    torn = λ h e. absurd (rejected_is result why TapeFailed answered refl e);
  }

  -- What the parts did or rejected is the node's step.
  pub act_steps : {A : Type 0} (journal journal_after : Journal T) (persistent persistent_after : DurablePart) (proposer proposer_after : Proposer) (input : Input Definition) (result : Result (Vec Message A) NodeFault) →
      IsSoundNode tapes journal persistent proposer → journal.halted ≡ false → RecordsFit Definition →
      IsStepAtParts tapes input journal persistent.parts proposer result journal_after persistent_after.parts proposer_after →
      IsStep tapes (view_of journal persistent.parts proposer) input result (view_of journal_after persistent_after.parts proposer_after)
  act_steps journal journal_after persistent persistent_after proposer proposer_after input result is running fit act =
      let fits : TransitionFits (stored_of persistent.parts) (proposer_transition proposer persistent.parts input) =
      fit definition_eq proposer.nodes proposer.node (stored_of persistent.parts) (volatile_of proposer) input is.for_next in
      elim (step_rejection (stored_of persistent.parts) (volatile_of proposer) input) as (λ why.
      step_rejection (stored_of persistent.parts) (volatile_of proposer) input ≡ why →
      IsRejectedOr tapes why (proposer_transition proposer persistent.parts input) journal persistent.parts proposer result journal_after persistent_after.parts proposer_after →
      IsStep tapes (view_of journal persistent.parts proposer) input result (view_of journal_after persistent_after.parts proposer_after)) [
        | None ↦ λ none change. done_step journal journal_after persistent.parts persistent_after.parts proposer proposer_after input result (λ h. is.stands h running) none fits change
        | Some why ↦ λ some refused. rejected_step journal journal_after persistent.parts persistent_after.parts proposer proposer_after input result why some refused.0 refused.1 refused.2
      ] refl act

  -- At each moment inside the step what a crash could have left stands for the durable state from
  -- before it, or the transition's.
  done_inside : {A : Type 0} (journal journal_after : Journal T) (parts parts_after : Parts) (proposer proposer_after : Proposer) (input : Input Definition) (result : Result (Vec Message A) NodeFault) →
      TransitionFits (stored_of parts) (proposer_transition proposer parts input) →
      IsChange tapes (proposer_transition proposer parts input) journal parts proposer result journal_after parts_after proposer_after →
      tapes.durable → AllStandFor (stored_of parts) (inside tapes journal.tape journal.tape) →
      EachStandsFor (stored_of parts) (store (stored_of parts) (proposer_transition proposer parts input).entry) (inside tapes journal.tape journal_after.tape)
  done_inside journal journal_after parts parts_after proposer proposer_after input (Ok messages) fits change h stand = change.0.moments h (stored_of parts) fits.fits stand
  done_inside journal journal_after parts parts_after proposer proposer_after input (Err Memory) fits change h stand = change.3 h (stored_of parts) fits.fits stand
  done_inside journal journal_after parts parts_after proposer proposer_after input (Err TapeFailed) fits change h stand = change.0.moments h (stored_of parts) fits.fits stand
  done_inside journal journal_after parts parts_after proposer proposer_after input (Err Busy) fits change h stand = absurd change
  done_inside journal journal_after parts parts_after proposer proposer_after input (Err SequenceFull) fits change h stand = absurd change
  done_inside journal journal_after parts parts_after proposer proposer_after input (Err RoundsFull) fits change h stand = absurd change
  done_inside journal journal_after parts parts_after proposer proposer_after input (Err Nothing) fits change h stand = absurd change
  done_inside journal journal_after parts parts_after proposer proposer_after input (Err Halted) fits change h stand = absurd change

  rejected_inside : (journal journal_after : Journal T) (before after : DurableState Definition) → journal_after ≡ journal → AllStandFor before (inside tapes journal.tape journal.tape) →
      EachStandsFor before after (inside tapes journal.tape journal_after.tape)
  rejected_inside journal journal_after before after same stand image left =
      inl (stand image (subst (λ (j : Journal T). inside tapes journal.tape j.tape image) same left))

  pub act_inside : {A : Type 0} (journal journal_after : Journal T) (persistent persistent_after : DurablePart) (proposer proposer_after : Proposer) (input : Input Definition) (result : Result (Vec Message A) NodeFault) →
      IsSoundNode tapes journal persistent proposer → journal.halted ≡ false → RecordsFit Definition →
      IsStepAtParts tapes input journal persistent.parts proposer result journal_after persistent_after.parts proposer_after →
      tapes.durable → LeavesNoOther (tapes.images journal.tape) (inside tapes journal.tape journal.tape) →
      EachStandsFor (stored_of persistent.parts) (store (stored_of persistent.parts) (transition_of (view_of journal persistent.parts proposer) input).entry) (inside tapes journal.tape journal_after.tape)
  act_inside journal journal_after persistent persistent_after proposer proposer_after input result is running fit act h now =
      let fits : TransitionFits (stored_of persistent.parts) (proposer_transition proposer persistent.parts input) =
      fit definition_eq proposer.nodes proposer.node (stored_of persistent.parts) (volatile_of proposer) input is.for_next in
      let stand : AllStandFor (stored_of persistent.parts) (inside tapes journal.tape journal.tape) = λ image left. is.stands h running image (now image left) in
      let stored_after = store (stored_of persistent.parts) (proposer_transition proposer persistent.parts input).entry in
      subst (λ r. EachStandsFor (stored_of persistent.parts) (store (stored_of persistent.parts) r.entry) (inside tapes journal.tape journal_after.tape)) (transition_shown journal persistent.parts proposer input)
      (elim (step_rejection (stored_of persistent.parts) (volatile_of proposer) input) as (λ why.
      IsRejectedOr tapes why (proposer_transition proposer persistent.parts input) journal persistent.parts proposer result journal_after persistent_after.parts proposer_after →
      EachStandsFor (stored_of persistent.parts) stored_after (inside tapes journal.tape journal_after.tape)) [
        | None ↦ λ change. done_inside journal journal_after persistent.parts persistent_after.parts proposer proposer_after input result fits change h stand
        | Some why ↦ λ refused. rejected_inside journal journal_after (stored_of persistent.parts) stored_after refused.1 stand
      ] act)

  -- If the tape failed, each image is cut within the transition's record or behind it.
  done_cut : {A : Type 0} (journal journal_after : Journal T) (parts parts_after : Parts) (proposer proposer_after : Proposer) (input : Input Definition) (result : Result (Vec Message A) NodeFault) →
      TransitionFits (stored_of parts) (proposer_transition proposer parts input) →
      IsChange tapes (proposer_transition proposer parts input) journal parts proposer result journal_after parts_after proposer_after →
      tapes.durable → AllStandFor (stored_of parts) (tapes.images journal.tape) → result ≡ Err TapeFailed →
      EachIsCut (proposer_transition proposer parts input).entry (stored_of parts) (store (stored_of parts) (proposer_transition proposer parts input).entry) (tapes.images journal.tape) (tapes.images journal_after.tape)
  done_cut journal journal_after parts parts_after proposer proposer_after input (Ok messages) fits change h stand e = absurd (differ _ _ (λ n. omega (arith, n)) e)
  done_cut journal journal_after parts parts_after proposer proposer_after input (Err Memory) fits change h stand e = absurd (differ _ _ (λ n. omega (arith, n)) e)
  done_cut journal journal_after parts parts_after proposer proposer_after input (Err TapeFailed) fits change h stand e = change.0.cut h (stored_of parts) fits.fits stand
  done_cut journal journal_after parts parts_after proposer proposer_after input (Err Busy) fits change h stand e = absurd change
  done_cut journal journal_after parts parts_after proposer proposer_after input (Err SequenceFull) fits change h stand e = absurd change
  done_cut journal journal_after parts parts_after proposer proposer_after input (Err RoundsFull) fits change h stand e = absurd change
  done_cut journal journal_after parts parts_after proposer proposer_after input (Err Nothing) fits change h stand e = absurd change
  done_cut journal journal_after parts parts_after proposer proposer_after input (Err Halted) fits change h stand e = absurd change

  pub act_cut : {A : Type 0} (journal journal_after : Journal T) (persistent persistent_after : DurablePart) (proposer proposer_after : Proposer) (input : Input Definition) (result : Result (Vec Message A) NodeFault) →
      IsSoundNode tapes journal persistent proposer → journal.halted ≡ false → RecordsFit Definition →
      IsStepAtParts tapes input journal persistent.parts proposer result journal_after persistent_after.parts proposer_after →
      tapes.durable → result ≡ Err TapeFailed →
      EachIsCut (transition_of (view_of journal persistent.parts proposer) input).entry (stored_of persistent.parts) (store (stored_of persistent.parts) (transition_of (view_of journal persistent.parts proposer) input).entry)
      (tapes.images journal.tape) (tapes.images journal_after.tape)
  act_cut journal journal_after persistent persistent_after proposer proposer_after input result is running fit act h e =
      let fits : TransitionFits (stored_of persistent.parts) (proposer_transition proposer persistent.parts input) =
      fit definition_eq proposer.nodes proposer.node (stored_of persistent.parts) (volatile_of proposer) input is.for_next in
      subst (λ r. EachIsCut r.entry (stored_of persistent.parts) (store (stored_of persistent.parts) r.entry) (tapes.images journal.tape) (tapes.images journal_after.tape)) (transition_shown journal persistent.parts proposer input)
      (elim (step_rejection (stored_of persistent.parts) (volatile_of proposer) input) as (λ why.
      IsRejectedOr tapes why (proposer_transition proposer persistent.parts input) journal persistent.parts proposer result journal_after persistent_after.parts proposer_after →
      EachIsCut (proposer_transition proposer persistent.parts input).entry (stored_of persistent.parts) (store (stored_of persistent.parts) (proposer_transition proposer persistent.parts input).entry) (tapes.images journal.tape) (tapes.images journal_after.tape)) [
        | None ↦ λ change. done_cut journal journal_after persistent.parts persistent_after.parts proposer proposer_after input result fits change h (is.stands h running) e
        | Some why ↦ λ refused. absurd (rejected_is result why TapeFailed refused.0 refl e)
      ] act)

  done_node : {A : Type 0} (journal journal_after : Journal T) (persistent persistent_after : DurablePart) (proposer proposer_after : Proposer) (input : Input Definition) (result : Result (Vec Message A) NodeFault) →
      IsSoundNode tapes journal persistent proposer → journal.halted ≡ false →
      TransitionFits (stored_of persistent.parts) (proposer_transition proposer persistent.parts input) → persistent_after.id ≡ persistent.id →
      IsChange tapes (proposer_transition proposer persistent.parts input) journal persistent.parts proposer result journal_after persistent_after.parts proposer_after →
      IsSoundNode tapes journal_after persistent_after proposer_after
  done_node journal journal_after persistent persistent_after proposer proposer_after input (Ok messages) is running fits id change = record {
    same_node = id ∙ (is.same_node ∙ sym change.1.node);
    for_next = subst (λ s. IsForNext s (volatile_of proposer_after).proposing) (sym change.1.stored) (subst (λ w. IsForNext (store (stored_of persistent.parts) (proposer_transition proposer persistent.parts input).entry) w.proposing) (sym change.1.volatile) fits.for_next);
    stands = λ h _. subst (λ s. AllStandFor s (tapes.images journal_after.tape)) (sym change.1.stored) (change.0.stored h (stored_of persistent.parts) fits.fits (is.stands h running));
  }
  done_node journal journal_after persistent persistent_after proposer proposer_after input (Err Memory) is running fits id change = record {
    same_node = id ∙ (is.same_node ∙ ap (λ (p : Proposer). p.node) (sym change.1.proposer));
    for_next = subst (λ parts. IsForNext (stored_of parts) (volatile_of proposer_after).proposing) (sym change.1.parts) (subst (λ p. IsForNext (stored_of persistent.parts) (volatile_of p).proposing) (sym change.1.proposer) is.for_next);
    stands = λ h _ image left. subst (λ parts. StandsFor (stored_of parts) image) (sym change.1.parts) (is.stands h running image ((change.0.same h).no_other image left));
  }
  done_node journal journal_after persistent persistent_after proposer proposer_after input (Err TapeFailed) is running fits id change = record {
    same_node = id ∙ (is.same_node ∙ ap (λ (p : Proposer). p.node) (sym change.1.proposer));
    for_next = subst (λ parts. IsForNext (stored_of parts) (volatile_of proposer_after).proposing) (sym change.1.parts) (subst (λ p. IsForNext (stored_of persistent.parts) (volatile_of p).proposing) (sym change.1.proposer) is.for_next);
    stands = λ h runs. absurd (false≢true (sym runs ∙ change.0.halted));
  }
  done_node journal journal_after persistent persistent_after proposer proposer_after input (Err Busy) is running fits id change = absurd change
  done_node journal journal_after persistent persistent_after proposer proposer_after input (Err SequenceFull) is running fits id change = absurd change
  done_node journal journal_after persistent persistent_after proposer proposer_after input (Err RoundsFull) is running fits id change = absurd change
  done_node journal journal_after persistent persistent_after proposer proposer_after input (Err Nothing) is running fits id change = absurd change
  done_node journal journal_after persistent persistent_after proposer proposer_after input (Err Halted) is running fits id change = absurd change

  rejected_node : (journal journal_after : Journal T) (persistent persistent_after : DurablePart) (proposer proposer_after : Proposer) → IsSoundNode tapes journal persistent proposer →
      persistent_after.id ≡ persistent.id → journal_after ≡ journal → IsSame persistent.parts persistent_after.parts proposer proposer_after → IsSoundNode tapes journal_after persistent_after proposer_after
  rejected_node journal journal_after persistent persistent_after proposer proposer_after is id same_journal same = record {
    same_node = id ∙ (is.same_node ∙ ap (λ (p : Proposer). p.node) (sym same.proposer));
    for_next = subst (λ parts. IsForNext (stored_of parts) (volatile_of proposer_after).proposing) (sym same.parts) (subst (λ p. IsForNext (stored_of persistent.parts) (volatile_of p).proposing) (sym same.proposer) is.for_next);
    stands = subst (λ (j : Journal T). tapes.durable → j.halted ≡ false → AllStandFor (stored_of persistent_after.parts) (tapes.images j.tape)) (sym same_journal)
        (subst (λ parts. tapes.durable → journal.halted ≡ false → AllStandFor (stored_of parts) (tapes.images journal.tape)) (sym same.parts) is.stands);
  }

  -- The invariant of nodes holds after the step.
  pub act_keeps : {A : Type 0} (journal journal_after : Journal T) (persistent persistent_after : DurablePart) (proposer proposer_after : Proposer) (input : Input Definition) (result : Result (Vec Message A) NodeFault) →
      IsSoundNode tapes journal persistent proposer → journal.halted ≡ false → RecordsFit Definition → persistent_after.id ≡ persistent.id →
      IsStepAtParts tapes input journal persistent.parts proposer result journal_after persistent_after.parts proposer_after →
      IsSoundNode tapes journal_after persistent_after proposer_after
  act_keeps journal journal_after persistent persistent_after proposer proposer_after input result is running fit id act =
      let fits : TransitionFits (stored_of persistent.parts) (proposer_transition proposer persistent.parts input) =
      fit definition_eq proposer.nodes proposer.node (stored_of persistent.parts) (volatile_of proposer) input is.for_next in
      elim (step_rejection (stored_of persistent.parts) (volatile_of proposer) input) as (λ why.
      IsRejectedOr tapes why (proposer_transition proposer persistent.parts input) journal persistent.parts proposer result journal_after persistent_after.parts proposer_after →
      IsSoundNode tapes journal_after persistent_after proposer_after) [
        | None ↦ λ change. done_node journal journal_after persistent persistent_after proposer proposer_after input result is running fits id change
        | Some why ↦ λ refused. rejected_node journal journal_after persistent persistent_after proposer proposer_after is id refused.1 refused.2
      ] act

  -- A tape that won't fail still won't after the step, and doesn't.
  done_sturdy : {A : Type 0} (journal journal_after : Journal T) (parts parts_after : Parts) (proposer proposer_after : Proposer) (the_transition : Transition Definition) (result : Result (Vec Message A) NodeFault) →
      IsChange tapes the_transition journal parts proposer result journal_after parts_after proposer_after → tapes.never_fails journal.tape →
      tapes.never_fails journal_after.tape × IfErr result (λ fault. fault ≡ TapeFailed → ⊥)
  done_sturdy journal journal_after parts parts_after proposer proposer_after the_transition (Ok messages) change sound = (change.0.still sound, tt)
  done_sturdy journal journal_after parts parts_after proposer proposer_after the_transition (Err Memory) change sound = (change.0.still sound, λ e. absurd (cc e))
  done_sturdy journal journal_after parts parts_after proposer proposer_after the_transition (Err TapeFailed) change sound = absurd (change.0.weak sound)
  done_sturdy journal journal_after parts parts_after proposer proposer_after the_transition (Err Busy) change sound = absurd change
  done_sturdy journal journal_after parts parts_after proposer proposer_after the_transition (Err SequenceFull) change sound = absurd change
  done_sturdy journal journal_after parts parts_after proposer proposer_after the_transition (Err RoundsFull) change sound = absurd change
  done_sturdy journal journal_after parts parts_after proposer proposer_after the_transition (Err Nothing) change sound = absurd change
  done_sturdy journal journal_after parts parts_after proposer proposer_after the_transition (Err Halted) change sound = absurd change

  -- a rejection isn't a failure of the tape
  rejected_soundly : {A : Type 0} (result : Result A NodeFault) (why : StepRejection) → rejected_by result ≡ Some why → IfErr result (λ fault. fault ≡ TapeFailed → ⊥)
  rejected_soundly (Ok x) why is = tt
  rejected_soundly (Err fault) why is = λ e. none-some why (sym (ap step_rejection_of e) ∙ is)

  pub act_sturdy : {A : Type 0} (journal journal_after : Journal T) (parts parts_after : Parts) (proposer proposer_after : Proposer) (input : Input Definition) (result : Result (Vec Message A) NodeFault) →
      IsStepAtParts tapes input journal parts proposer result journal_after parts_after proposer_after → tapes.never_fails journal.tape →
      tapes.never_fails journal_after.tape × IfErr result (λ fault. fault ≡ TapeFailed → ⊥)
  act_sturdy journal journal_after parts parts_after proposer proposer_after input result act sound =
      elim (step_rejection (stored_of parts) (volatile_of proposer) input) as (λ why.
      IsRejectedOr tapes why (proposer_transition proposer parts input) journal parts proposer result journal_after parts_after proposer_after →
      tapes.never_fails journal_after.tape × IfErr result (λ fault. fault ≡ TapeFailed → ⊥)) [
        | None ↦ λ change. done_sturdy journal journal_after parts parts_after proposer proposer_after (proposer_transition proposer parts input) result change sound
        | Some why ↦ λ refused. (subst (λ (j : Journal T). tapes.never_fails j.tape) (sym refused.1) sound, rejected_soundly result why refused.0)
      ] act
