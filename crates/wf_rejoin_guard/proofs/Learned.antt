-- What the runs of a folder leave that has only learned.
use Rattle.std.proofs.Common.{◌≡◌, ℕ, Bool, true, false, List, [], ◌∷◌, map, Some, None, refl, sym, ap, subst, ◌∙◌, inl, inr}
use Rattle.std.proofs.lemmas.Option.{same_Some}
use Rattle.wf_execution.specs.Execution.{Ended, AreRuns}
use Rattle.wf_execution.specs.Continuation.{left_by}
use Rattle.wf_execution.specs.Run.{Input, Act, Run, last_of, last, RunEnd, Between, Within, Failed, StandForEither, FailedAt, HasLeft, AreDone}
use Rattle.wf_codec.specs.Message as message
use Rattle.wf_codec.specs.declared.message.Message.{Message}
use Rattle.wf_def.specs.Definition.{Definition}
use Rattle.wf_def.specs.Equality.{definition_eq}
use Rattle.wf_delivery.specs.NodeInput.{Halts, Rejects, Steps, Fails, Takes}
use Rattle.wf_journal.specs.Records.{AreReadOneWay}
use Rattle.wf_journal.specs.RecordTheorems.{none_begins_nothing}
use Rattle.wf_model.specs.Chosen.{IsIn}
use Rattle.wf_model.specs.DurableState.{DurableState, Record, nothing_stored, fold_from, fold}
use Rattle.wf_model.specs.Message as model
use Rattle.wf_model.specs.Message.{Chosen}
use Rattle.wf_model.specs.Table as table
use Rattle.wf_model.specs.Table.{transition, store}
use Rattle.wf_model.specs.declared.action.Action.TheVariants as action
use Rattle.wf_node.specs.Images.{StandsFor}
use Rattle.wf_node.specs.Input.{view}
use Rattle.wf_node.specs.Node.{Node, stored_of, volatile_of}
use Rattle.wf_node.specs.Step.{stored_next}
use Rattle.wf_tape.specs.declared.tape.Tape.{Ghosts as Tape}
use Rattle.wf_rejoin_guard.specs.Learned.{LearnsBy, ActsLearn, EndLearns, RunsLearn, HoldsLearned, LearnedAreCopies}
use Rattle.wf_rejoin_guard.proofs.Lessons.{IsLearned, nothing_learned, chosen_learned, proposed_learned, retried_learned, asked_learned}
use Rattle.wf_rejoin_guard.proofs.Lists.{in_map}

-- ---- an empty tape

folds_nothing : fold {V = Definition} [] ≡ Some nothing_stored
unfolding fold fold_from
folds_nothing = refl

nothing_stands : StandsFor nothing_stored []
nothing_stands = record { records = []; reads = ([], record { splits = refl; longest = none_begins_nothing }); folds = folds_nothing }

-- bytes stand for one state
stand_once : AreReadOneWay → (stored other : DurableState Definition) (bytes : List ℕ) → StandsFor stored bytes → StandsFor other bytes → stored ≡ other
stand_once one stored other bytes stands also =
    let same : stands.records ≡ also.records = one bytes stands.records also.records stands.reads also.reads in
    same_Some stored other (sym stands.folds ∙ ap (λ (rs : List (Record Definition)). fold rs) same ∙ also.folds)

module _ (sent : List Message) where
  abbrev said : List (model.Message Definition)
  said = map message.view sent

  held : (stored : DurableState Definition) (bytes : List ℕ) → StandsFor stored bytes → IsLearned said stored → HoldsLearned sent bytes
  held stored bytes stands learned = record { holds = record { stored = stored; stands = stands; copy = learned.copy }; said = learned.said }

  nothing_held : HoldsLearned sent []
  nothing_held = held nothing_stored [] nothing_stands (nothing_learned said)

  -- ---- a step

  module _ {T : Type 0} (node : Node T) (learned : IsLearned said (stored_of node)) where
    -- what is stored by a message that is delivered
    abbrev stored_by : model.Message Definition → DurableState Definition
    stored_by m = store (stored_of node) (transition definition_eq node.n node.id (stored_of node) (volatile_of node) (table.Deliver m)).entry

    chosen_stored : (s : ℕ) (d : Definition) → IsIn (Chosen s d) said → IsLearned said (stored_by (Chosen s d))
    unfolding table.transition table.on_message
    chosen_stored s d is_in = chosen_learned said definition_eq (stored_of node) (volatile_of node) learned s d is_in

    given_stored : (m : model.Message Definition) (s : ℕ) (d : Definition) → m ≡ Chosen s d → IsIn m said → IsLearned said (stored_by m)
    given_stored m s d same is_in = subst (λ x. IsLearned said (stored_by x)) (sym same) (chosen_stored s d (subst (λ x. IsIn x said) same is_in))

    proposed_stored : (d : Definition) → IsLearned said (stored_next node (table.Propose d))
    unfolding table.transition
    proposed_stored d = proposed_learned said (stored_of node) (volatile_of node) learned node.id d

    retried_stored : IsLearned said (stored_next node table.Retry)
    unfolding table.transition
    retried_stored = retried_learned said (stored_of node) (volatile_of node) learned node.id

    asked_stored : IsLearned said (stored_next node table.CatchUp)
    unfolding table.transition
    asked_stored = asked_learned said (stored_of node) (volatile_of node) learned

    next_learned : (input : Input) → LearnsBy sent input → IsLearned said (stored_next node (view input))
    next_learned (action.Propose d) learns = proposed_stored d
    next_learned action.Retry learns = retried_stored
    next_learned action.CatchUp learns = asked_stored
    next_learned (action.Deliver m) learns = given_stored (message.view m) learns.1.sequence learns.1.definition learns.1.is (in_map message.view m sent learns.0)

    -- what is left where a run is cut within a step
    either_held : (input : Input) (bytes : List ℕ) → LearnsBy sent input → StandForEither node input bytes → HoldsLearned sent bytes
    either_held input bytes learns (inl stands) = held (stored_of node) bytes stands learned
    either_held input bytes learns (inr stands) = held (stored_next node (view input)) bytes stands.1 (next_learned input learns)

  module _ {T : Type 0} (tapes : Tape T) where
    act_learned : (before after : Node T) (input : Input) (outputs : List Message) (lost : Bool) → Takes tapes lost (view input) before after outputs → LearnsBy sent input →
        IsLearned said (stored_of before) → IsLearned said (stored_of after)
    act_learned before after input outputs false (Halts is same quiet) learns learned = subst (λ (x : Node T). IsLearned said (stored_of x)) (sym same) learned
    act_learned before after input outputs false (Rejects why runs refused same quiet) learns learned = subst (λ (x : Node T). IsLearned said (stored_of x)) (sym same) learned
    act_learned before after input outputs false (Steps runs none is grown) learns learned = subst (IsLearned said) (sym is.stored) (next_learned before learned input learns)
    act_learned before after input outputs false (Fails runs none is same keeps part torn quiet) learns learned =
        subst (IsLearned said) (sym (ap (λ (x : Node T). stored_of x) same)) learned
    act_learned before after input outputs true is learns learned = subst (IsLearned said) (sym (ap (λ (x : Node T). stored_of x) is.same)) learned

    -- ---- a run

    acts_learned : (node : Node T) (acts : List (Act T)) → AreDone tapes node acts → ActsLearn sent acts → IsLearned said (stored_of node) → IsLearned said (stored_of (last_of node acts))
    unfolding last_of
    acts_learned node [] done learn learned = learned
    acts_learned node (act ∷ acts) done learn learned =
        acts_learned act.after acts done.1 learn.1 (act_learned node act.after act.input act.outputs done.0.lost done.0.takes learn.0 learned)

    failed_learns : (node : Node T) (acts : List (Act T)) (input : Input) → FailedAt node acts input → ActsLearn sent acts → LearnsBy sent input
    failed_learns node [] input failed learn = absurd failed
    failed_learns node (act ∷ acts) input (inl here) learn = subst (LearnsBy sent) here.2 learn.0
    failed_learns node (act ∷ acts) input (inr later) learn = failed_learns act.after acts input later learn.1

    end_held : (run : Run T) (end : RunEnd) (bytes : List ℕ) → HasLeft run end bytes → ActsLearn sent run.acts → EndLearns sent end → IsLearned said (stored_of (last run)) → HoldsLearned sent bytes
    end_held run Between bytes left learn ends learned = held (stored_of (last run)) bytes left.1 learned
    end_held run (Within input) bytes left learn ends learned = either_held (last run) learned input bytes ends left.1
    end_held run (Failed input) bytes left learn ends learned = either_held (last run) learned input bytes (failed_learns run.first run.acts input left.0 learn) left.1

    -- ---- all runs

    runs_held : AreReadOneWay → (n i : ℕ) (bytes : List ℕ) (ended : List (Ended T)) → HoldsLearned sent bytes → AreRuns tapes n i bytes ended None → RunsLearn sent ended →
        HoldsLearned sent (left_by bytes ended)
    unfolding left_by
    runs_held one n i bytes [] holds are learn = holds
    runs_held one n i bytes (ended ∷ later) holds are learn =
        let begins : holds.holds.stored ≡ stored_of ended.run.first = stand_once one holds.holds.stored (stored_of ended.run.first) bytes holds.holds.stands are.0.run.opened.stored in
        let first : IsLearned said (stored_of ended.run.first) = subst (IsLearned said) begins (record { copy = holds.holds.copy; said = holds.said }) in
        runs_held one n i ended.left later
        (end_held ended.run ended.end ended.left are.0.left learn.0 learn.1 (acts_learned ended.run.first ended.run.acts are.0.run.done learn.0 first)) are.1 learn.2

pub learned_copies : {T : Type 0} (tapes : Tape T) → AreReadOneWay → LearnedAreCopies tapes
learned_copies tapes one = λ n i sent ended are learn. runs_held sent tapes one n i [] ended (nothing_held sent) are learn
