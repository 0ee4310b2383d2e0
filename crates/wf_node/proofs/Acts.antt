-- The step of an input is made if its transition's effects are.
use Rattle.std.proofs.Common.{◌≡◌, ℕ, false, List, Option, Some, None, option_map, Result, Ok, Err, IsSome, Vec, refl, sym, subst, ap, ◌∙◌}
use Rattle.wf_acceptor.specs.AcceptorAnswer as answered
use Rattle.wf_acceptor.specs.declared.acceptor.AcceptorAnswer.{AcceptorAnswer}
use Rattle.wf_ballot.specs.Ballot.{Ballot}
use Rattle.wf_codec.specs.declared.message.Message.{Message}
use Rattle.wf_def.specs.Definition.{Definition}
use Rattle.wf_def.specs.Equality.{definition_eq}
use Rattle.wf_model.specs.Fits.{IsForNext, Fits, RecordsFit}
use Rattle.wf_model.specs.Message as model
use Rattle.wf_model.specs.DurableState.{DurableState}
use Rattle.wf_model.specs.Table.{Transition, Input, StepRejection, Propose, Retry, CatchUp, Deliver, transition, step_rejection, reject_proposal, reject_retry, only_sends, on_propose, on_retry, on_catch_up, on_prepare, on_accept, on_promise, on_accepted, on_nack, on_chosen, on_ask, on_message, reports_from, most_reports}
use Rattle.wf_model.specs.VolatileState.{VolatileState}
use Rattle.wf_proposer.specs.Next.{Sends}
use Rattle.wf_proposer.specs.Proposer.{Proposer, volatile_of}
use Rattle.wf_proposer.specs.StepRejection.{step_rejection_of}
use Rattle.wf_proposer.specs.declared.step_rejection.StepRejection as held
use Rattle.wf_proposer.specs.declared.step_rejection.StepRejection.TheVariants as held_case
use Rattle.wf_journal.specs.Journal.{Journal}
use Rattle.wf_journal.specs.Record.{view}
use Rattle.wf_node.specs.declared.fault.NodeFault.{NodeFault}
use Rattle.wf_node.specs.declared.fault.NodeFault.TheVariants.{Memory}
use Rattle.wf_node.specs.Act.{IsStepAtParts, IsChange, IsRejectedOr, IsStepReply}
use Rattle.wf_node.specs.Fault.{rejected_by, TakesMemory, ByEntry, ByMessages, fault_of}
use Rattle.wf_node.specs.DurablePart as keeping
use Rattle.wf_node.specs.Parts.{Parts, stored_of}
use Rattle.wf_node.proofs.Replies.{change_as, change_from, memory_changes, sends_changes}
use Rattle.wf_tape.specs.declared.tape.Tape.{Ghosts as Tape}

-- the table's transition of an input at the parts of a node
abbrev pub transition_at : Parts → Proposer → Input Definition → Transition Definition
transition_at parts proposer input = transition definition_eq proposer.nodes proposer.node (stored_of parts) (volatile_of proposer) input

-- the record of an input's transition fits
pub transition_fits : (parts : Parts) (proposer : Proposer) (input : Input Definition) (given : Transition Definition) → RecordsFit Definition → IsForNext (stored_of parts) (volatile_of proposer).proposing →
    given ≡ transition_at parts proposer input → Fits (stored_of parts) given.entry
transition_fits parts proposer input given fit for_next is =
    subst (λ r. Fits (stored_of parts) r.entry) (sym is)
    (fit definition_eq proposer.nodes proposer.node (stored_of parts) (volatile_of proposer) input for_next).fits

module _ {T : Type 0} (tapes : Tape T) where
  -- an input that the table doesn't reject
  pub act_done : {A : Type 0} (input : Input Definition) (given : Transition Definition) (journal journal_after : Journal T) (parts parts_after : Parts) (proposer proposer_after : Proposer)
      (result : Result (Vec Message A) NodeFault) → step_rejection (stored_of parts) (volatile_of proposer) input ≡ None → given ≡ transition_at parts proposer input →
      IsChange tapes given journal parts proposer result journal_after parts_after proposer_after →
      IsStepAtParts tapes input journal parts proposer result journal_after parts_after proposer_after
  act_done input given journal journal_after parts parts_after proposer proposer_after result none is change =
      subst (λ why. IsRejectedOr tapes why (transition_at parts proposer input) journal parts proposer result journal_after parts_after proposer_after) (sym none)
      (change_as tapes given (transition_at parts proposer input) journal journal_after parts parts_after proposer proposer_after result is change)

  -- an input that only sends messages
  pub act_only_sends : {A : Type 0} (input : Input Definition) (messages : List (model.Message Definition)) (journal : Journal T) (parts : Parts) (proposer : Proposer)
      (result : Result (Vec Message A) NodeFault) → step_rejection (stored_of parts) (volatile_of proposer) input ≡ None → journal.halted ≡ false →
      transition_at parts proposer input ≡ only_sends (volatile_of proposer) messages → IsStepReply messages result →
      IsStepAtParts tapes input journal parts proposer result journal parts proposer
  act_only_sends input messages journal parts proposer result none running is reply =
      subst (λ why. IsRejectedOr tapes why (transition_at parts proposer input) journal parts proposer result journal parts proposer) (sym none)
      (sends_changes tapes (transition_at parts proposer input) messages journal parts proposer result running is reply)

  -- an input that the table rejects
  pub act_rejected : {A : Type 0} (input : Input Definition) (why : StepRejection) (journal : Journal T) (parts : Parts) (proposer : Proposer)
      (result : Result (Vec Message A) NodeFault) → step_rejection (stored_of parts) (volatile_of proposer) input ≡ Some why → rejected_by result ≡ Some why →
      IsStepAtParts tapes input journal parts proposer result journal parts proposer
  act_rejected input why journal parts proposer result some answered =
      subst (λ x. IsRejectedOr tapes x (transition_at parts proposer input) journal parts proposer result journal parts proposer) (sym some)
      (answered, refl, record { parts = refl; proposer = refl })

  -- an input for which allocation failed
  pub act_short : {A : Type 0} (input : Input Definition) (journal : Journal T) (parts parts_after : Parts) (proposer : Proposer)
      (result : Result (Vec Message A) NodeFault) → step_rejection (stored_of parts) (volatile_of proposer) input ≡ None → journal.halted ≡ false → result ≡ Err Memory → parts_after ≡ parts →
      TakesMemory (transition_at parts proposer input) →
      IsStepAtParts tapes input journal parts proposer result journal parts_after proposer
  act_short input journal parts parts_after proposer result none running short same takes =
      subst (λ why. IsRejectedOr tapes why (transition_at parts proposer input) journal parts proposer result journal parts_after proposer) (sym none)
      (memory_changes tapes (transition_at parts proposer input) journal parts parts_after proposer result short running same takes)

-- a delivered message is never rejected, and its transition is the message's
pub delivered : (stored : DurableState Definition) (volatile : VolatileState Definition) (message : model.Message Definition) → step_rejection stored volatile (Deliver message) ≡ None
unfolding step_rejection
delivered stored volatile message = refl

pub transition_delivered : (parts : Parts) (proposer : Proposer) (message : model.Message Definition) →
    transition_at parts proposer (Deliver message) ≡ on_message definition_eq proposer.nodes proposer.node (stored_of parts) (volatile_of proposer) message
unfolding transition
transition_delivered parts proposer message = refl

-- ---- the acceptor's transitions

pub prepare_transition : (id : ℕ) (parts : Parts) (proposer : Proposer) (s : ℕ) (b : Ballot) → id ≡ proposer.node →
    on_prepare id (stored_of parts) (volatile_of proposer) s b ≡ transition_at parts proposer (Deliver (model.Prepare s b))
unfolding transition on_message
prepare_transition id parts proposer s b same = ap (λ me. on_prepare me (stored_of parts) (volatile_of proposer) s b) same

pub accept_transition : (id : ℕ) (parts : Parts) (proposer : Proposer) (s : ℕ) (b : Ballot) (d : Definition) → id ≡ proposer.node →
    on_accept id (stored_of parts) (volatile_of proposer) s b d ≡ transition_at parts proposer (Deliver (model.Accept s b d))
unfolding transition on_message
accept_transition id parts proposer s b d same = ap (λ me. on_accept me (stored_of parts) (volatile_of proposer) s b d) same

-- the record of the acceptor's answer fits
pub answer_fits : (input : Input Definition) (given : VolatileState Definition → Transition Definition) (answer : AcceptorAnswer) (parts made : Parts) (proposer : Proposer) →
    RecordsFit Definition → IsForNext (stored_of parts) (volatile_of proposer).proposing → keeping.IsTransitionAnswer given answer → given (volatile_of proposer) ≡ transition_at parts proposer input → made ≡ parts →
    Fits (stored_of made) (option_map view answer.entry)
answer_fits input given answer parts made proposer fit for_next is_transition is same =
    subst (λ p. Fits (stored_of p) (option_map view answer.entry)) (sym same)
    (transition_fits parts proposer input (answered.transition_of answer (volatile_of proposer)) fit for_next (is_transition (volatile_of proposer) ∙ is))

-- a transition that stores a record may allocate
pub stored_takes : (input : Input Definition) (given : VolatileState Definition → Transition Definition) (parts : Parts) (proposer : Proposer) →
    keeping.Stores given → given (volatile_of proposer) ≡ transition_at parts proposer input → TakesMemory (transition_at parts proposer input)
stored_takes input given parts proposer stores is =
    ByEntry (subst (λ r. IsSome r.entry) is (stores (volatile_of proposer)))

module _ {T : Type 0} (tapes : Tape T) where
  -- the acceptor's answer is made
  pub act_given : {A : Type 0} (input : Input Definition) (given : VolatileState Definition → Transition Definition) (answer : AcceptorAnswer) (journal journal_after : Journal T) (parts made parts_after : Parts) (proposer proposer_after : Proposer)
      (result : Result (Vec Message A) NodeFault) → step_rejection (stored_of parts) (volatile_of proposer) input ≡ None → keeping.IsTransitionAnswer given answer → given (volatile_of proposer) ≡ transition_at parts proposer input → made ≡ parts →
      IsChange tapes (answered.transition_of answer (volatile_of proposer)) journal made proposer result journal_after parts_after proposer_after →
      IsStepAtParts tapes input journal parts proposer result journal_after parts_after proposer_after
  act_given input given answer journal journal_after parts made parts_after proposer proposer_after result none is_transition is same change =
      let answered_transition = answered.transition_of answer (volatile_of proposer) in
      act_done tapes input answered_transition journal journal_after parts parts_after proposer proposer_after result none (is_transition (volatile_of proposer) ∙ is)
      (change_from tapes answered_transition journal journal_after parts made parts_after proposer proposer_after result same change)

  proposer_rejects : (A : Type 0) (input : Input Definition) (why : held.StepRejection) (journal : Journal T) (parts : Parts) (proposer : Proposer) →
      step_rejection_of why ≡ step_rejection (stored_of parts) (volatile_of proposer) input → journal.halted ≡ false →
      (why ≡ held_case.Memory → TakesMemory (transition_at parts proposer input)) →
      IsStepAtParts tapes {A = A} input journal parts proposer (Err (fault_of why)) journal parts proposer
  proposer_rejects A input held_case.Busy journal parts proposer is running takes = act_rejected tapes input _ journal parts proposer _ (sym is) refl
  proposer_rejects A input held_case.Nothing journal parts proposer is running takes = act_rejected tapes input _ journal parts proposer _ (sym is) refl
  proposer_rejects A input held_case.RoundsFull journal parts proposer is running takes = act_rejected tapes input _ journal parts proposer _ (sym is) refl
  proposer_rejects A input held_case.Memory journal parts proposer is running takes =
      act_short tapes input journal parts parts proposer _ (sym is) running refl refl (takes refl)

  -- the proposer's rejection is returned, or allocation failed
  pub act_proposer_rejects : (A : Type 0) (input : Input Definition) (why : held.StepRejection) (fault : NodeFault) (journal : Journal T) (parts : Parts) (proposer : Proposer) →
      fault ≡ fault_of why → step_rejection_of why ≡ step_rejection (stored_of parts) (volatile_of proposer) input → journal.halted ≡ false →
      (why ≡ held_case.Memory → TakesMemory (transition_at parts proposer input)) →
      IsStepAtParts tapes {A = A} input journal parts proposer (Err fault) journal parts proposer
  act_proposer_rejects A input why fault journal parts proposer same is running takes =
      subst (λ f. IsStepAtParts tapes {A = A} input journal parts proposer (Err f) journal parts proposer) (sym same)
      (proposer_rejects A input why journal parts proposer is running takes)

  abbrev error_or : {A E : Type 0} → E → Result A E → E
  error_or e (Ok x) = e
  error_or e (Err given) = given

  -- an answer makes the proposal send something, and allocation failed for that
  pub act_sends : (A B : Type 0) (input : Input Definition) (why : held.StepRejection) (fault : NodeFault) (journal : Journal T) (parts : Parts) (proposer : Proposer) →
      fault ≡ fault_of why → step_rejection (stored_of parts) (volatile_of proposer) input ≡ None → journal.halted ≡ false →
      Sends (transition_at parts proposer input) × ◌≡◌ {A = Result B held.StepRejection} (Err why) (Err held_case.Memory) →
      IsStepAtParts tapes {A = A} input journal parts proposer (Err fault) journal parts proposer
  act_sends A B input why fault journal parts proposer same none running short =
      act_short tapes input journal parts parts proposer (Err fault) none running
      (ap Err (same ∙ ap fault_of (ap (error_or held_case.Memory) short.1))) refl (ByMessages short.0)

-- ---- transitions and rejections of the other inputs

pub catch_up_unrefused : (stored : DurableState Definition) (volatile : VolatileState Definition) → step_rejection stored volatile CatchUp ≡ None
unfolding step_rejection
catch_up_unrefused stored volatile = refl

pub transition_catch_up : (parts : Parts) (proposer : Proposer) → transition_at parts proposer CatchUp ≡ on_catch_up (stored_of parts) (volatile_of proposer)
unfolding transition
transition_catch_up parts proposer = refl

pub transition_ask : (parts : Parts) (proposer : Proposer) (s : ℕ) → transition_at parts proposer (Deliver (model.Ask s)) ≡ only_sends (volatile_of proposer) (reports_from parts.history s most_reports)
unfolding transition on_message on_ask
transition_ask parts proposer s = refl

pub transition_propose : (parts : Parts) (proposer : Proposer) (own : Definition) → on_propose proposer.node (stored_of parts) (volatile_of proposer) own ≡ transition_at parts proposer (Propose own)
unfolding transition
transition_propose parts proposer own = refl

pub step_rejection_propose : (stored : DurableState Definition) (volatile : VolatileState Definition) (own : Definition) → step_rejection stored volatile (Propose own) ≡ reject_proposal stored volatile.leadership volatile.proposing
unfolding step_rejection
step_rejection_propose stored volatile own = refl

pub transition_retry : (parts : Parts) (proposer : Proposer) → on_retry proposer.node (stored_of parts) (volatile_of proposer) ≡ transition_at parts proposer Retry
unfolding transition
transition_retry parts proposer = refl

pub step_rejection_retry : (stored : DurableState Definition) (volatile : VolatileState Definition) → step_rejection stored volatile Retry ≡ reject_retry stored volatile.proposing
unfolding step_rejection
step_rejection_retry stored volatile = refl

pub transition_promise : (parts : Parts) (proposer : Proposer) (sender s : ℕ) (b : Ballot) (votes : List (Option (model.Vote Definition))) →
    on_promise proposer.nodes (volatile_of proposer) sender s b votes ≡ transition_at parts proposer (Deliver (model.Promise sender s b votes))
unfolding transition on_message
transition_promise parts proposer sender s b votes = refl

pub transition_accepted : (parts : Parts) (proposer : Proposer) (sender s : ℕ) (b : Ballot) →
    on_accepted definition_eq proposer.nodes (volatile_of proposer) sender s b ≡ transition_at parts proposer (Deliver (model.Accepted sender s b))
unfolding transition on_message
transition_accepted parts proposer sender s b = refl

pub transition_nack : (parts : Parts) (proposer : Proposer) (sender s : ℕ) (b promise : Ballot) →
    on_nack (volatile_of proposer) s b promise ≡ transition_at parts proposer (Deliver (model.Nack sender s b promise))
unfolding transition on_message
transition_nack parts proposer sender s b promise = refl

pub transition_chosen : (parts : Parts) (proposer : Proposer) (s : ℕ) (d : Definition) →
    on_chosen definition_eq (stored_of parts) (volatile_of proposer) s d ≡ transition_at parts proposer (Deliver (model.Chosen s d))
unfolding transition on_message
transition_chosen parts proposer s d = refl
