-- A process's runs, one after the other, are a life of the model's.
use Rattle.std.proofs.Common.{◌≡◌, ℕ, Bool, true, false, List, [], ◌∷◌, ◌++◌, Option, Some, None, refl, sym, ap, subst, ◌∙◌, inl, inr, append-nil, append_assoc}
use Rattle.std.proofs.lemmas.Option.{none-some, same_Some}
use Rattle.wf_def.specs.Definition.{Definition}
use Rattle.wf_model.specs.DurableState.{DurableState, Record, fold_from, fold, nothing_stored}
use Rattle.wf_model.specs.World as world
use Rattle.wf_journal.specs.Records.{AreReadOneWay, IsReadAsNone}
use Rattle.wf_node.specs.Growth.{IsGrown, grown_itself, store_grown}
use Rattle.wf_node.specs.Images.{StandsFor}
use Rattle.wf_node.specs.Input.{view}
use Rattle.wf_node.specs.Node.{Node, stored_of}
use Rattle.wf_node.specs.Step.{transition_of, stored_next}
use Rattle.wf_delivery.specs.Delivery.{IsNodeBy, ShowsNode, AnyPart}
use Rattle.wf_tape.specs.declared.tape.Tape.{Ghosts as Tape}
use Rattle.wf_execution.specs.Run.{Input, Act, Run, last_of, last, RunEnd, Between, Within, Failed, FailedAt, HasLeft, AreDone, IsRun}
use Rattle.wf_execution.specs.Execution.{Ended, IsRunEnded, AreRuns, values_after, values_of, Item, items_by, items_at, items_in}
use Rattle.wf_execution.proofs.Lists.{Grow}
use Rattle.wf_execution.proofs.Lives.{running, down, shown_by, shown, shown_running, shown_halted, Reachable, reachable_nowhere, reachable_both, reachable_stopped, reachable_restarted, reachable_unchanged, reachable_cut, takes_grown, last_id, AreKept, kept_before, kept_after, failed_last, acts_reachable}

-- ---- what the bytes on a tape stand for

-- these bytes stand for this alone
abbrev pub StandOnlyFor : DurableState Definition → List ℕ → Type 0
StandOnlyFor stored bytes = (other : DurableState Definition) → StandsFor other bytes → other ≡ stored

pub stand_once : AreReadOneWay → (stored : DurableState Definition) (bytes : List ℕ) → StandsFor stored bytes → StandOnlyFor stored bytes
stand_once one stored bytes stands = λ other also.
    let same : also.records ≡ stands.records = one bytes also.records stands.records also.reads stands.reads in
    same_Some other stored (sym also.folds ∙ ap (λ (rs : List (Record Definition)). fold rs) same ∙ stands.folds)

folds_nothing : fold {V = Definition} [] ≡ Some nothing_stored
unfolding fold fold_from
folds_nothing = refl

pub stand_for_nothing : IsReadAsNone → StandOnlyFor nothing_stored []
stand_for_nothing none = λ other also.
    same_Some other nothing_stored (sym also.folds ∙ ap (λ (rs : List (Record Definition)). fold rs) (none also.records also.reads) ∙ folds_nothing)

-- ---- the node in the model

module _ {T : Type 0} (node : Node T) (part : DurableState Definition) (same : part ≡ stored_of node) where
  stored_by : (halted : Bool) → (shown_by halted part node).stored ≡ stored_of node
  stored_by false = refl
  stored_by true = same

  node_by : (halted : Bool) → IsNodeBy halted (AnyPart 0) node (shown_by halted part node)
  node_by false = refl
  node_by true = (refl, ([], append-nil node.parts.history ∙ ap (λ (s : DurableState Definition). s.history) (sym same)), tt)

-- ---- the values that a node had

module _ {T : Type 0} (tapes : Tape T) where
  acts_grow : (before : Node T) (acts : List (Act T)) (more : List (Node T)) (to : List Definition) → AreDone tapes before acts → Grow (last_of before acts).parts.history more to →
      Grow before.parts.history (values_after acts ++ more) to
  unfolding last_of values_after
  acts_grow before [] more to done grow = grow
  acts_grow before (act ∷ acts) more to done grow =
      (takes_grown tapes before (view act.input) act.after act.outputs done.0.lost done.0.takes, acts_grow act.after acts more to done.1 grow)

-- ---- a run that has ended

-- What is left of a run stands for this, and the run leads to it, from what it was opened from.
record Finishes {T : Type 0} (n i : ℕ) (stored : DurableState Definition) (run : Run T) (end : RunEnd) (left : List ℕ) : Type 0 where
  next : DurableState Definition
  stands : StandsFor next left
  reachable : Reachable n i (down stored) (items_by i run.acts ++ items_at i end) (down next)
  grown : IsGrown (last run).parts.history next.history

module _ {T : Type 0} (tapes : Tape T) (n i : ℕ) (bytes : List ℕ) (stored : DurableState Definition) (run : Run T) (is : IsRun tapes n i bytes run) (same : stored ≡ stored_of run.first) where
  -- the node restarts and takes its steps
  run_reachable : (part : DurableState Definition) → AreKept tapes part run.first run.acts → Reachable n i (down stored) (items_by i run.acts) (shown part (last run))
  run_reachable part kept =
      reachable_both n i (down stored) (shown part run.first) (shown part (last run)) [] (items_by i run.acts)
      (subst (Reachable n i (down stored) []) (sym (shown_running part run.first is.opened.runs)) (reachable_restarted n i stored run.first same is.opened.idle))
      (acts_reachable tapes n i part run.first run.acts is.opened.id is.opened.among is.done kept)

  -- its last node runs, and the run ends by these items
  running_reachable : (last run).halted ≡ false → (items : List Item) (next : DurableState Definition) → Reachable n i (running (last run)) items (down next) → Reachable n i (down stored) (items_by i run.acts ++ items) (down next)
  running_reachable runs items next reachable =
      let part = stored_of (last run) in
      reachable_both n i (down stored) (running (last run)) (down next) (items_by i run.acts) items
      (subst (Reachable n i (down stored) (items_by i run.acts)) (shown_running part (last run) runs) (run_reachable part (kept_before tapes part run.first run.acts is.done refl))) reachable

  -- its tape failed
  halted_reachable : (part : DurableState Definition) (input : Input) → FailedAt run.first run.acts input → AreKept tapes part run.first run.acts → Reachable n i (down stored) (items_by i run.acts ++ []) (down part)
  halted_reachable part input failed kept =
      subst (λ items. Reachable n i (down stored) items (down part)) (sym (append-nil (items_by i run.acts)))
      (subst (Reachable n i (down stored) (items_by i run.acts)) (shown_halted part (last run) (failed_last tapes run.first run.acts input is.done failed)) (run_reachable part kept))

  last_transition : (input : Input) → IsGrown (last run).parts.history (stored_next (last run) (view input)).history
  last_transition input = store_grown (stored_of (last run)) (transition_of (last run) (view input)).entry

  ids : ((last run).id ≡ i) × ((last run).n ≡ n)
  ids = let at_last = last_id tapes run.first run.acts is.done in (at_last.0 ∙ is.opened.id, at_last.1 ∙ is.opened.among)

  finishes : (end : RunEnd) (left : List ℕ) → HasLeft run end left → Finishes n i stored run end left
  finishes Between left (runs, stands) =
      let at_last = last run in
      record {
        next = stored_of at_last;
        stands = stands;
        reachable = running_reachable runs [] (stored_of at_last) (reachable_stopped n i (running at_last));
        grown = grown_itself at_last.parts.history;
      }
  finishes (Within input) left (runs, either) = elim either [
    | inl stands ↦
        let at_last = last run in
        record {
          next = stored_of at_last;
          stands = stands;
          reachable = running_reachable runs (items_at i (Within input)) (stored_of at_last)
              (reachable_both n i (running at_last) (running at_last) (down (stored_of at_last)) (items_at i (Within input)) [] (reachable_unchanged n i (running at_last) input) (reachable_stopped n i (running at_last)));
          grown = grown_itself at_last.parts.history;
        }
    | inr (none, stands) ↦
        let at_last = last run in
        record {
          next = stored_next at_last (view input);
          stands = stands;
          reachable = running_reachable runs (items_at i (Within input)) (stored_next at_last (view input)) (reachable_cut n i at_last (view input) ids.0 ids.1 input refl none);
          grown = last_transition input;
        }
  ]
  finishes (Failed input) left (failed, either) = elim either [
    | inl stands ↦
        let part = stored_of (last run) in
        record {
          next = part;
          stands = stands;
          reachable = halted_reachable part input failed (kept_before tapes part run.first run.acts is.done refl);
          grown = grown_itself (last run).parts.history;
        }
    | inr (none, stands) ↦
        let part = stored_next (last run) (view input) in
        record {
          next = part;
          stands = stands;
          reachable = halted_reachable part input failed (kept_after tapes part run.first run.acts input is.done failed refl);
          grown = last_transition input;
        }
  ]

-- ---- all runs

-- Runs lead from a stopped node that has stored this to a node, by these items; and each list of
-- published maps is one's beginning.
pub record Runs {T : Type 0} (n i : ℕ) (stored : DurableState Definition) (from : List Definition) (ended : List (Ended T)) (now : Option (Run T)) : Type 0 where
  pub node : world.Node Definition
  pub reachable : Reachable n i (down stored) (items_in i ended now) node
  pub grow : Grow from (values_of ended now) node.stored.history
  pub runs : (run : Run T) → now ≡ Some run → ShowsNode (AnyPart 0) (last run) node
  pub stopped : now ≡ None → node.volatile ≡ None

module _ {T : Type 0} (tapes : Tape T) (n i : ℕ) where
  -- it runs
  last_run : (bytes : List ℕ) (stored : DurableState Definition) (from : List Definition) (run : Run T) → StandOnlyFor stored bytes → IsGrown from stored.history → IsRun tapes n i bytes run →
      Runs n i stored from [] (Some run)
  unfolding items_in values_of
  last_run bytes stored from run known grown is =
      let part = stored_of (last run) in
      let same : stored ≡ stored_of run.first = sym (known (stored_of run.first) is.opened.stored) in
      record {
        node = shown part (last run);
        reachable = run_reachable tapes n i bytes stored run is same part (kept_before tapes part run.first run.acts is.done refl);
        grow = (
          subst (λ (s : DurableState Definition). IsGrown from s.history) same grown,
          subst (λ nodes. Grow run.first.parts.history nodes (shown part (last run)).stored.history) (append-nil (values_after run.acts))
              (acts_grow tapes run.first run.acts [] (shown part (last run)).stored.history is.done
              (subst (λ (s : DurableState Definition). IsGrown (last run).parts.history s.history) (sym (stored_by (last run) part refl (last run).halted)) (grown_itself (last run).parts.history))),
        );
        runs = λ other it. subst (λ (r : Run T). ShowsNode (AnyPart 0) (last r) (shown part (last run))) (same_Some run other it) (node_by (last run) part refl (last run).halted);
        stopped = λ none. absurd (none-some run (sym none));
      }

  -- nothing runs
  no_run : (stored : DurableState Definition) (from : List Definition) → IsGrown from stored.history → Runs {T = T} n i stored from [] None
  unfolding items_in values_of
  no_run stored from grown = record {
    node = down stored;
    reachable = reachable_nowhere n i (down stored);
    grow = grown;
    runs = λ run none. absurd (none-some run none);
    stopped = λ none. refl;
  }

  -- one run before the others
  one_more : (bytes : List ℕ) (stored : DurableState Definition) (from : List Definition) (ended : Ended T) (later : List (Ended T)) (now : Option (Run T)) → StandOnlyFor stored bytes → IsGrown from stored.history →
      (is : IsRunEnded tapes n i bytes ended) (so : Finishes n i stored ended.run ended.end ended.left) → Runs n i so.next (last ended.run).parts.history later now → Runs n i stored from (ended ∷ later) now
  unfolding items_in values_of
  one_more bytes stored from ended later now known grown is so rest =
      let same : stored ≡ stored_of ended.run.first = sym (known (stored_of ended.run.first) is.run.opened.stored) in
      record {
        node = rest.node;
        reachable = subst (λ items. Reachable n i (down stored) items rest.node) (append_assoc (items_by i ended.run.acts) (items_at i ended.end) (items_in i later now))
            (reachable_both n i (down stored) (down so.next) rest.node (items_by i ended.run.acts ++ items_at i ended.end) (items_in i later now) so.reachable rest.reachable);
        grow = (
          subst (λ (s : DurableState Definition). IsGrown from s.history) same grown,
          acts_grow tapes ended.run.first ended.run.acts (values_of later now) rest.node.stored.history is.run.done rest.grow,
        );
        runs = rest.runs;
        stopped = rest.stopped;
      }

  pub runs_reach : AreReadOneWay → (bytes : List ℕ) (stored : DurableState Definition) (from : List Definition) (ended : List (Ended T)) (now : Option (Run T)) →
      StandOnlyFor stored bytes → IsGrown from stored.history → AreRuns tapes n i bytes ended now → Runs n i stored from ended now
  runs_reach one bytes stored from [] None known grown are = no_run stored from grown
  runs_reach one bytes stored from [] (Some run) known grown is = last_run bytes stored from run known grown is
  runs_reach one bytes stored from (ended ∷ later) now known grown are =
      let so = finishes tapes n i bytes stored ended.run are.0.run (sym (known (stored_of ended.run.first) are.0.run.opened.stored)) ended.end ended.left are.0.left in
      one_more bytes stored from ended later now known grown are.0 so
      (runs_reach one ended.left so.next (last ended.run).parts.history later now (stand_once one so.next ended.left so.stands) so.grown are.1)
