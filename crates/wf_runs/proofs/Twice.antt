-- A node that is opened, takes a step and is opened again is two sessions.
use Rattle.std.proofs.Common.{◌≡◌, ℕ, zero, suc, false, List, [], ◌∷◌, ◌++◌, slice_get, Some, None, Ok, Err, IfOk, refl, sym, subst}
use Rattle.std.specs.Prelude.{Result}
use Rattle.wf_codec.specs.declared.message.Message.{Message}
use Rattle.wf_def.specs.Definition.{Definition}
use Rattle.wf_delivery.specs.NodeInput.{Steps}
use Rattle.wf_model.specs.declared.action.Action.TheVariants as action
use Rattle.wf_node.specs.Input.{view}
use Rattle.wf_node.specs.Step.{IsTransition, entry_of, step_rejection_at, transition_of}
use Rattle.wf_node.specs.TapeWrites.{bytes_of}
use Rattle.std.proofs.lemmas.Option.{none-some, same_Some}
use Rattle.wf_execution.specs.Execution.{IsOneOf}
use Rattle.wf_execution.specs.Run.{Act, Between, HasLeft, IsAct, IsOpenedFrom, last_of}
use Rattle.wf_node.specs.Node.{Node}
use Rattle.wf_tape.specs.declared.tape.Tape.{Ghosts as Tape}
use Rattle.wf_runs.specs.Session.{NodeSession, SessionStep, acts_at, run_at}
use Rattle.wf_runs.specs.Folder.{IsFound, IsLeftAt, IsNewTape, IsSession}
use Rattle.wf_runs.specs.Twice.{AreTwoSessions, IsOpenedAgain}

module _ {T : Type 0} (tapes : Tape T) (first : Node T) (act : Act T) (opened : IsOpenedFrom 1 0 [] first) (is : IsAct tapes first act) (own : IsOneOf [] act.input) where
  step : SessionStep T
  step = record { node_index = 0; act = act }

  before : NodeSession T
  before = record { nodes = first ∷ []; steps = step ∷ []; ends = λ i. Between }

  first_found : (i : ℕ) (node : Node T) → slice_get (first ∷ []) i ≡ Some node → IsFound 1 i IsNewTape node
  first_found zero node at = record { bytes = []; may_be = λ stored stands. stands; opened = subst (IsOpenedFrom 1 0 []) (same_Some first node at) opened }
  first_found (suc i) node at = absurd (none-some node at)

  first_session : IsSession tapes 1 IsNewTape before
  unfolding before step
  first_session = record {
    as_many = refl;
    opened = first_found;
    taken = (record { before = first; at = refl; is = is; arrived = own }, tt);
  }

  module _ (again : Node T) (runs : act.after.halted ≡ false) (after : IsOpenedAgain 1 0 act.after again) where
    left : HasLeft (run_at 0 first before) Between after.bytes
    unfolding before step acts_at last_of
    left = (runs, after.stands)

    is_left : IsLeftAt before 0 after.bytes
    unfolding before
    is_left = record { first = first; at = refl; left = after.bytes; by_run = left; by_openings = λ stored stands. stands; sent = tt }

    again_found : (i : ℕ) (node : Node T) → slice_get (again ∷ []) i ≡ Some node → IsFound 1 i (IsLeftAt before) node
    again_found zero node at = record { bytes = after.bytes; may_be = is_left; opened = subst (IsOpenedFrom 1 0 after.bytes) (same_Some again node at) after.opened }
    again_found (suc i) node at = absurd (none-some node at)

    pub two_sessions : AreTwoSessions tapes again
    unfolding before
    two_sessions = record {
      first = before;
      second = record { nodes = again ∷ []; steps = []; ends = λ i. Between };
      folder = (first_session, (record { as_many = refl; opened = again_found; taken = tt }, tt));
      stepped = refl;
      opened = refl;
    }

-- A node that was opened on an empty tape proposed a map, and was opened again.
pub twice : {T E : Type 0} (tapes : Tape T) (first after : Node T) (map : Definition) (outputs : List Message) (id : ℕ) (bytes : List ℕ) (result : Result (Node T) E) → id ≡ 0 → bytes ≡ [] → IsOpenedFrom 1 id bytes first →
    None ≡ step_rejection_at first (view (action.Propose map)) → IsTransition first (transition_of first (view (action.Propose map))) outputs after →
    (tapes.durable → tapes.content after.tape ≡ tapes.content first.tape ++ bytes_of (entry_of first (view (action.Propose map)))) → IfOk result (IsOpenedAgain 1 id after) → IfOk result (AreTwoSessions tapes)
twice tapes first after map outputs id bytes (Err why) own empty opened none transition content again = tt
twice tapes first after map outputs id bytes (Ok next) own empty opened none transition content again =
    let act : Act _ = record { input = action.Propose map; outputs = outputs; after = after } in
    two_sessions tapes first act (subst (λ i. IsOpenedFrom 1 i [] first) own (subst (λ bs. IsOpenedFrom 1 id bs first) empty opened))
    (record { lost = false; takes = Steps opened.runs (sym none) transition content }) tt next transition.running (subst (λ i. IsOpenedAgain 1 i after next) own again)
