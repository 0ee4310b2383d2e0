-- A run, with one more step at its end.
use Rattle.std.proofs.Common.{◌≡◌, List, [], ◌∷◌, ◌++◌, refl, ap, sym, ◌∙◌, append-nil, append_assoc}
use Rattle.wf_def.specs.Definition.{Definition}
use Rattle.wf_model.specs.DurableState.{DurableState}
use Rattle.wf_node.specs.Images.{StandsFor}
use Rattle.wf_node.specs.Node.{Node}
use Rattle.wf_node.specs.OpenedNode.{IsFoldOf}
use Rattle.wf_tape.specs.declared.tape.Tape.{Ghosts as Tape}
use Rattle.std.specs.Prelude.{ℕ}
use Rattle.wf_execution.specs.Run.{Act, last_of, given_to, given, outputs, IsAct, AreDone}

-- what a tape's content folds to, it stands for
pub fold_stands : (stored : DurableState Definition) (bytes : List ℕ) → IsFoldOf stored bytes → StandsFor stored bytes
fold_stands stored bytes is = record { records = is.records; reads = (is.rest, is.tape.reads); folds = is.folds }

module _ {T : Type 0} where
  pub last_more : (node : Node T) (acts : List (Act T)) (act : Act T) → last_of node (acts ++ act ∷ []) ≡ act.after
  unfolding last_of
  last_more node [] act = refl
  last_more node (first ∷ acts) act = last_more first.after acts act

  pub outputs_more : (acts : List (Act T)) (act : Act T) → outputs (acts ++ act ∷ []) ≡ outputs acts ++ act.outputs
  unfolding outputs
  outputs_more [] act = append-nil act.outputs
  outputs_more (first ∷ acts) act = ap (λ ms. first.outputs ++ ms) (outputs_more acts act) ∙ sym (append_assoc first.outputs (outputs acts) act.outputs)

  pub given_more : (acts : List (Act T)) (act : Act T) → given (acts ++ act ∷ []) ≡ given acts ++ given_to act.input
  unfolding given
  given_more [] act = append-nil (given_to act.input)
  given_more (first ∷ acts) act = ap (λ ms. given_to first.input ++ ms) (given_more acts act) ∙ sym (append_assoc (given_to first.input) (given acts) (given_to act.input))

  pub done_more : (tapes : Tape T) (node : Node T) (acts : List (Act T)) (act : Act T) → AreDone tapes node acts → IsAct tapes (last_of node acts) act → AreDone tapes node (acts ++ act ∷ [])
  unfolding last_of
  done_more tapes node [] act done is = (is, tt)
  done_more tapes node (first ∷ acts) act done is = (done.0, done_more tapes first.after acts act done.1 is)
