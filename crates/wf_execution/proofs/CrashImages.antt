-- a durable tape leaves what a run leaves.
use Rattle.std.proofs.Common.{◌≡◌, ◌⊎◌, ℕ, Bool, true, false, List, [], ◌∷◌, None, refl, sym, ap, subst, ◌∙◌, inl, inr}
use Rattle.std.proofs.lemmas.Bool.{both_ways}
use Rattle.wf_codec.specs.declared.message.Message.{Message}
use Rattle.wf_def.specs.Definition.{Definition}
use Rattle.wf_model.specs.DurableState.{DurableState}
use Rattle.wf_model.specs.Table as table
use Rattle.wf_model.specs.Table.{store}
use Rattle.wf_node.specs.Images.{StandsFor, EachStandsFor}
use Rattle.wf_node.specs.Input.{view}
use Rattle.wf_node.specs.Node.{Node, stored_of}
use Rattle.wf_node.specs.Reopening.{HasStoredAs}
use Rattle.wf_node.specs.Step.{entry_of, step_rejection_at, stored_next, IsSameNode}
use Rattle.wf_delivery.specs.NodeInput.{Halts, Rejects, Fails, Takes}
use Rattle.wf_delivery.specs.NodeInput as giving
use Rattle.wf_tape.specs.declared.tape.Tape.{Ghosts as Tape}
use Rattle.wf_execution.specs.Run.{Input, Act, last_of, last, StandForEither, FailedAt, AreDone}
use Rattle.wf_execution.specs.CrashImages.{ComparisonLeaves, LeavesBetween, LeavesWithin, LeavesFailed}
use Rattle.wf_execution.proofs.Lives.{halted_last}

pub leaves_between : {T : Type 0} (tapes : Tape T) → LeavesBetween tapes
leaves_between tapes = λ run runs stands image left. (runs, stands image left)

either_stands : {T : Type 0} (node : Node T) (input : Input) (image : List ℕ) → step_rejection_at node (view input) ≡ None →
    StandsFor (stored_of node) image ⊎ StandsFor (stored_next node (view input)) image → StandForEither node input image
either_stands node input image none (inl before) = inl before
either_stands node input image none (inr next) = inr (none, next)

pub leaves_within : {T : Type 0} (tapes : Tape T) → LeavesWithin tapes
leaves_within tapes = λ run input next runs none each image left. (runs, either_stands (last run) input image none (each image left))

-- ---- a tape that failed

module _ {T : Type 0} (tapes : Tape T) (before : Node T) (input : table.Input Definition) (after : Node T) (outputs : List Message) where
  -- what is known where a tape fails within a step
  record IsFailure : Type 0 where
    none : step_rejection_at before input ≡ None
    same : IsSameNode before after
    kept : after.failed ≡ entry_of before input
    torn : tapes.durable → EachStandsFor (stored_of before) (stored_next before input) (tapes.images after.tape)

  is_failure : (lost : Bool) → Takes tapes lost input before after outputs → before.halted ≡ false → after.halted ≡ true → IsFailure
  is_failure false (Halts is same quiet) runs halts = absurd (both_ways before.halted runs is)
  is_failure false (Rejects why is refused same quiet) runs halts = absurd (both_ways before.halted is (ap (λ (x : Node T). x.halted) (sym same) ∙ halts))
  is_failure false (giving.Steps is none transition grown) runs halts = absurd (both_ways after.halted transition.running halts)
  is_failure false (Fails is none now same keeps part torn quiet) runs halts = record { none = none; same = same; kept = keeps; torn = torn }
  is_failure true is runs halts = absurd (both_ways after.halted is.still halts)

module _ {T : Type 0} (tapes : Tape T) where
  -- what is known of a node by now whose tape failed within the step of this input
  record IsFailedBy (input : Input) (node : Node T) : Type 0 where
    none : step_rejection_at node (view input) ≡ None
    kept : node.failed ≡ entry_of node (view input)
    each : tapes.durable → (image : List ℕ) → tapes.images node.tape image → StandForEither node input image

  record Leaves (before : Node T) (acts : List (Act T)) : Type 0 where
    input : Input
    failed : FailedAt before acts input
    left : IsFailedBy input (last_of before acts)

  -- the first step after which the node is halted
  fails_here : (before : Node T) (act : Act T) (acts : List (Act T)) → AreDone tapes before (act ∷ acts) → before.halted ≡ false → act.after.halted ≡ true → Leaves before (act ∷ acts)
  unfolding last_of
  fails_here before act acts done runs halts =
      let is = is_failure tapes before (view act.input) act.after act.outputs done.0.lost done.0.takes runs halts in
      let none = ap (λ (x : Node T). step_rejection_at x (view act.input)) is.same ∙ is.none in
      let here : IsFailedBy act.input act.after = record {
        none = none;
        kept = is.kept ∙ sym (ap (λ (x : Node T). entry_of x (view act.input)) is.same);
        each = λ durable image left. either_stands act.after act.input image none
            (subst (λ (x : Node T). StandsFor (stored_of x) image ⊎ StandsFor (stored_next x (view act.input)) image) (sym is.same) (is.torn durable image left));
      } in
      record {
        input = act.input;
        failed = inl (runs, halts, refl);
        left = subst (IsFailedBy act.input) (sym (halted_last tapes act.after acts halts done.1)) here;
      }

  fails_later : (before : Node T) (act : Act T) (acts : List (Act T)) → Leaves act.after acts → Leaves before (act ∷ acts)
  unfolding last_of
  fails_later before act acts later = record { input = later.input; failed = inr later.failed; left = later.left }

  -- by whether that step is it
  by_case : (before : Node T) (act : Act T) (acts : List (Act T)) → AreDone tapes before (act ∷ acts) → before.halted ≡ false → (halted : Bool) → act.after.halted ≡ halted →
      (act.after.halted ≡ false → Leaves act.after acts) → Leaves before (act ∷ acts)
  by_case before act acts done runs true is later = fails_here before act acts done runs is
  by_case before act acts done runs false is later = fails_later before act acts (later is)

  fails_in : (before : Node T) (acts : List (Act T)) → AreDone tapes before acts → before.halted ≡ false → (last_of before acts).halted ≡ true → Leaves before acts
  unfolding last_of
  fails_in before [] done runs halts = absurd (both_ways before.halted runs halts)
  fails_in before (act ∷ acts) done runs halts = by_case before act acts done runs act.after.halted refl (λ is. fails_in act.after acts done.1 is halts)

pub leaves_failed : {T : Type 0} (tapes : Tape T) → LeavesFailed tapes
leaves_failed tapes = λ durable n i bytes run is halts.
    let so = fails_in tapes run.first run.acts is.done is.opened.runs halts in
    record { input = so.input; failed = so.failed; leaves = λ image left. (so.failed, so.left.each durable image left) }

-- The node on what was left has stored what the halted one had, or that with the step's record: so
-- the bytes stand for one of both.
compared : {T : Type 0} (tapes : Tape T) (node next : Node T) (input : Input) (left : List ℕ) → IsFailedBy tapes input node → StandsFor (stored_of next) left → HasStoredAs node next →
    StandForEither node input left
compared tapes node next input left failed stands (inl same) = inl (subst (λ (stored : DurableState Definition). StandsFor stored left) same stands)
compared tapes node next input left failed stands (inr more) =
    inr (failed.none, subst (λ (stored : DurableState Definition). StandsFor stored left) (more ∙ ap (store (stored_of node)) failed.kept) stands)

pub comparison_leaves : {T : Type 0} (tapes : Tape T) → ComparisonLeaves tapes
comparison_leaves tapes = λ n i bytes left run next is halts opened stored_as.
    let so = fails_in tapes run.first run.acts is.done is.opened.runs halts in
    record { input = so.input; leaves = (so.failed, compared tapes (last run) next so.input left so.left opened.stored stored_as) }
