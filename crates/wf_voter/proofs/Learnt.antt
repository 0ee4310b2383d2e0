-- A node that is told what is published, or is to ask for it, returns nothing but a question for
-- that.
use Rattle.std.proofs.Common.{◌≡◌, ◌⊎◌, ℕ, Bool, true, false, List, [], ◌∷◌, ◌++◌, map, Ok, Err, Vec, refl, sym, subst, ap, inl, inr}
use Rattle.std.proofs.lemmas.Bool.{cases_Bool}
use Rattle.std.specs.Prelude.{Result, Some, if◌then◌else◌, nat_lt, ◌==◌}
use Rattle.std.specs.declared.alloc.Global.{Global}
use Rattle.wf_ballot.specs.Sequence.{last_sequence}
use Rattle.wf_codec.specs.Message.{view}
use Rattle.wf_codec.specs.declared.message.Message.{Message}
use Rattle.wf_codec.specs.declared.message.Message.TheVariants as code
use Rattle.wf_def.specs.Definition.{Definition}
use Rattle.wf_def.specs.Equality.{definition_eq}
use Rattle.wf_actor.specs.Reachability.{outputs_by}
use Rattle.wf_edge.specs.StepResult.{IsStepResult}
use Rattle.wf_voter.specs.Continuation.{besides_questions, is_ask, is_chosen}
use Rattle.wf_model.specs.DurableState.{DurableState, Published, published, next_sequence}
use Rattle.wf_model.specs.Message as model
use Rattle.wf_model.specs.Table as table
use Rattle.wf_model.specs.Table.{Transition, transition, on_message, on_chosen, on_catch_up, only_sends, quiet, after_publishing}
use Rattle.wf_model.specs.VolatileState.{VolatileState}
use Rattle.wf_model.specs.declared.action.Action.TheVariants as actions
use Rattle.wf_node.specs.Input as node
use Rattle.wf_node.specs.Node.{Node, stored_of, volatile_of}
use Rattle.wf_node.specs.Step.{transition_of}
use Rattle.wf_node.specs.declared.fault.NodeFault.{NodeFault}
use Rattle.wf_tape.specs.declared.tape.Tape.{Ghosts as Tape}

-- ---- the table

-- no message, or one that asks
abbrev pub IsOneAsk : List (model.Message Definition) → Type 0
IsOneAsk messages = (messages ≡ []) ⊎ ((s : ℕ) × (messages ≡ model.Ask s ∷ []))

module _ (stored : DurableState Definition) (volatile : VolatileState Definition) where
  chosen_by : (s : ℕ) (d : Definition) (next later : Bool) → IsOneAsk (if next then record { entry = Some (Published s d); messages = []; volatile = after_publishing definition_eq volatile d }
      else (if later then only_sends volatile (model.Ask (next_sequence stored) ∷ []) else quiet volatile)).messages
  unfolding only_sends quiet
  chosen_by s d true later = inl refl
  chosen_by s d false true = inr (next_sequence stored, refl)
  chosen_by s d false false = inl refl

  chosen_asks : (n me s : ℕ) (d : Definition) → IsOneAsk (transition definition_eq n me stored volatile (table.Deliver (model.Chosen s d))).messages
  unfolding transition on_message on_chosen
  chosen_asks n me s d = chosen_by s d (s == next_sequence stored) (nat_lt (next_sequence stored) s)

  asks_by : (more : Bool) → IsOneAsk (if more then only_sends volatile (model.Ask (next_sequence stored) ∷ []) else quiet volatile).messages
  unfolding only_sends quiet
  asks_by true = inr (next_sequence stored, refl)
  asks_by false = inl refl

  catch_up_asks : (n me : ℕ) → IsOneAsk (transition definition_eq n me stored volatile table.CatchUp).messages
  unfolding transition on_catch_up
  catch_up_asks n me = asks_by (nat_lt (published stored) last_sequence)

-- ---- the messages that a node returned

ask_by : (m : Message) (s : ℕ) → view m ≡ model.Ask s → is_ask m ≡ true
ask_by (code.Prepare t b) s is = absurd cc
ask_by (code.Promise i b report) s is = absurd cc
ask_by (code.Accept t b d) s is = absurd cc
ask_by (code.Accepted i t b) s is = absurd cc
ask_by (code.Nack i t b q) s is = absurd cc
ask_by (code.Chosen t d) s is = absurd cc
ask_by (code.Ask t) s is = refl

asks_of : (sent : List Message) → IsOneAsk (map view sent) → besides_questions sent ≡ []
unfolding besides_questions
asks_of [] is = refl
asks_of (m ∷ rest) (inl none) = absurd cc
asks_of (m ∷ []) (inr one) =
    let is = one.1 in
    let first : view m ≡ model.Ask one.0 = cc in
    ap (λ (b : Bool). if b then [] else m ∷ []) (ask_by m one.0 first)
asks_of (m ∷ (another ∷ rest)) (inr one) = absurd (let is = one.1 in cc)

none_returned : besides_questions [] ≡ []
unfolding besides_questions
none_returned = refl

pub questions_more : (xs ys : List Message) → besides_questions ys ≡ [] → besides_questions (xs ++ ys) ≡ besides_questions xs
unfolding besides_questions
questions_more [] ys none = none
questions_more (x ∷ xs) ys none = ap (λ (zs : List Message). if is_ask x then zs else x ∷ zs) (questions_more xs ys none)

module _ {T : Type 0} (tapes : Tape T) (before after : Node T) where
  returned_asks : (input : table.Input Definition) (answer : Result (Vec Message Global) NodeFault) → IsStepResult tapes input before answer after → IsOneAsk (transition_of before input).messages
      → besides_questions (outputs_by answer) ≡ []
  returned_asks input (Err fault) is one = none_returned
  returned_asks input (Ok messages) is one = elim (cases_Bool before.halted) [
    | inl halted ↦ absurd (let refused = (is.refused halted).0 in cc)
    | inr runs ↦ asks_of messages.items (subst IsOneAsk (sym (is.steps runs).done.messages) one)
  ]

  pub told_asks : (m : Message) (answer : Result (Vec Message Global) NodeFault) → is_chosen m ≡ true → IsStepResult tapes (node.view (actions.Deliver m)) before answer after
      → besides_questions (outputs_by answer) ≡ []
  told_asks (code.Prepare s b) answer says is = absurd cc
  told_asks (code.Promise i b report) answer says is = absurd cc
  told_asks (code.Accept s b d) answer says is = absurd cc
  told_asks (code.Accepted i s b) answer says is = absurd cc
  told_asks (code.Nack i s b q) answer says is = absurd cc
  told_asks (code.Chosen s d) answer says is = returned_asks (table.Deliver (model.Chosen s d)) answer is (chosen_asks (stored_of before) (volatile_of before) before.n before.id s d)
  told_asks (code.Ask s) answer says is = absurd cc

  pub asking_asks : (answer : Result (Vec Message Global) NodeFault) → IsStepResult tapes (node.view actions.CatchUp) before answer after → besides_questions (outputs_by answer) ≡ []
  asking_asks answer is = returned_asks table.CatchUp answer is (catch_up_asks (stored_of before) (volatile_of before) before.n before.id)
