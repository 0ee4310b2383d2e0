-- The runs of one process are those of an execution, of which the next one begins where the one
-- before ended.
use Rattle.std.proofs.Common.{◌≡◌, ℕ, zero, suc, true, false, List, [], ◌∷◌, ◌++◌, Option, refl, sym, ap, subst, ◌∙◌, append_assoc}
use Rattle.std.proofs.lemmas.List.{map-append}
use Rattle.wf_actor.specs.Farm.{item_of, items, steps_by}
use Rattle.wf_actor.specs.declared.actor.Actor.{Actor}
use Rattle.wf_execution.specs.Execution.{AreRuns, Ended, items_by, items_in, values_in, values_of}
use Rattle.wf_execution.specs.Continuation.{left_by}
use Rattle.wf_execution.specs.CrashImages.{ComparisonLeaves}
use Rattle.wf_execution.specs.Run.{Failed, HasLeft, Input, IsOpenedFrom, IsRun, Run, last}
use Rattle.wf_voter.specs.Continuation.{AreRunsFrom, IsLater}
use Rattle.wf_model.specs.VolatileState.{at_start}
use Rattle.wf_node.specs.Images.{StandsFor}
use Rattle.wf_node.specs.Node.{Node, stored_of, volatile_of}
use Rattle.wf_node.specs.Reopening.{HasStoredAs}
use Rattle.wf_tape.specs.declared.tape.Tape.{Ghosts as Tape}
use Rattle.wf_histories.specs.Events.{bytes_at_first}
use Rattle.wf_histories.specs.Runs.{LifeOf, LivesOf, Made, TracedRun, first_acts, made_of, steps_over, traced_by, values_over}
use Rattle.wf_histories.proofs.Acts.{done_first, items_by_acts}

abbrev pub first_or : {A : Type 0} → A → List (A × ℕ) → A
first_or other [] = other
first_or other (entry ∷ rest) = entry.0

module _ {T : Type 0} (tapes : Tape T) (n i : ℕ) where
  -- ---- one run

  module _ (actor now : Actor T tapes) (stood : actor.stood.items ≡ (actor.node, 0) ∷ []) (later : IsLater tapes actor now) (life : LifeOf tapes now) where
    -- it began with the node as it was opened
    pub same_first : life.run.first ≡ actor.node
    same_first = ap (λ (log : List (Node T × ℕ)). first_or actor.node log) (sym life.values.first ∙ sym later.stood.1 ∙ ap (λ (log : List (Node T × ℕ)). log ++ later.stood.0) stood)

    pub same_id : actor.node.id ≡ i → now.node.id ≡ i
    same_id is = life.number ∙ ap (λ (node : Node T). node.id) same_first ∙ is

    pub same_n : actor.node.n ≡ n → now.node.n ≡ n
    same_n is = life.among ∙ ap (λ (node : Node T). node.n) same_first ∙ is

    -- from the bytes that were read then
    pub opened_so : actor.node.id ≡ i → actor.node.n ≡ n → IsOpenedFrom n i life.opened.opened.bytes actor.node
    opened_so id among =
        let there = life.opened.opened.opened in
        record {
          id = id;
          among = among;
          runs = subst (λ (node : Node T). node.halted ≡ false) same_first there.runs;
          stored = subst (λ (node : Node T). StandsFor (stored_of node) life.opened.opened.bytes) same_first there.stored;
          idle = subst (λ (node : Node T). volatile_of node ≡ at_start) same_first there.idle;
        }

    module _ (bytes : List ℕ) (opened : IsOpenedFrom n i bytes actor.node) where
      first_opened : IsOpenedFrom n i bytes life.run.first
      first_opened = subst (λ (node : Node T). IsOpenedFrom n i bytes node) (sym same_first) opened

      pub is_run : IsRun tapes n i bytes life.run
      is_run = record { opened = first_opened; done = life.done }

      pub is_cut_run : (made : ℕ) → IsRun tapes n i bytes (first_acts made (traced_by tapes now life)).run
      is_cut_run made = record { opened = first_opened; done = done_first tapes made life.run.first life.run.acts life.done }

  -- ---- runs one after the other

  pub opened_next : (actor : Actor T tapes) (ended : List (Actor T tapes × ℕ)) (now : Actor T tapes) → actor.stood.items ≡ (actor.node, 0) ∷ [] → AreRunsFrom tapes actor ended now → (lives : LivesOf tapes ended now)
      → actor.node.id ≡ i → actor.node.n ≡ n → IsOpenedFrom n i (bytes_at_first tapes ended now lives) actor.node
  opened_next actor [] now stood are lives id among = opened_so actor now stood are lives id among
  opened_next actor (run ∷ ended) now stood are lives id among = opened_so actor run.0 stood are.0 lives.0 id among

  -- What is made of runs, with the runs that come after them: an execution from these bytes. It
  -- leaves what they leave, if they leave that whatever they begin from.
  pub record IsExecutionWith (bytes : List ℕ) (made : Made T) (later : List (Ended T)) (now : Option (Run T)) : Type 0 where
    pub ended : List (Ended T)
    pub runs : AreRuns tapes n i bytes ended now
    pub its_items : items_in i ended now ≡ items (steps_over i made.over) ++ items_in i later now
    pub its_values : values_of ended now ≡ values_over made.over ++ values_of later now
    pub leaves : (end : List ℕ) → ((first : List ℕ) → left_by first later ≡ end) → (first : List ℕ) → left_by first ended ≡ end

  nothing_over : (bytes : List ℕ) (made : Made T) (later : List (Ended T)) (now : Option (Run T)) → made.over ≡ [] → AreRuns tapes n i bytes later now → IsExecutionWith bytes made later now
  unfolding steps_over values_over
  nothing_over bytes made later now none runs = record {
    ended = later;
    runs = runs;
    its_items = ap (λ over. items (steps_over i over) ++ items_in i later now) (sym none);
    its_values = ap (λ over. values_over over ++ values_of later now) (sym none);
    leaves = λ end leaves first. leaves first;
  }

  -- one run more, over which the tape failed and was opened anew, from these bytes
  one_more : (bytes from : List ℕ) (traced : TracedRun T) (input : Input) (made : Made T) (later : List (Ended T)) (now : Option (Run T)) → IsRun tapes n i bytes traced.run → HasLeft traced.run (Failed input) from
      → items (steps_by i traced.run.acts traced.origins) ≡ items_by i traced.run.acts → IsExecutionWith from made later now → IsExecutionWith bytes (record { over = traced ∷ made.over; last = made.last }) later now
  unfolding steps_over values_over items_in values_of left_by
  one_more bytes from traced input made later now is left shown rest = record {
    ended = record { run = traced.run; end = Failed input; left = from } ∷ rest.ended;
    runs = (record { run = is; left = left }, rest.runs);
    its_items =
        ap (λ xs. items_by i traced.run.acts ++ xs) rest.its_items
        ∙ sym (append_assoc (items_by i traced.run.acts) (items (steps_over i made.over)) (items_in i later now))
        ∙ ap (λ xs. xs ++ items_in i later now)
        (ap (λ xs. xs ++ items (steps_over i made.over)) (sym shown) ∙ sym (map-append item_of (steps_by i traced.run.acts traced.origins) (steps_over i made.over)));
    its_values =
        ap (λ xs. values_in traced.run ++ xs) rest.its_values
        ∙ sym (append_assoc (values_in traced.run) (values_over made.over) (values_of later now));
    leaves = λ end leaves first. rest.leaves end leaves from;
  }

  pub execution_with : ComparisonLeaves tapes → (bytes : List ℕ) (actor : Actor T tapes) (ended : List (Actor T tapes × ℕ)) (now : Actor T tapes) → IsOpenedFrom n i bytes actor.node
      → actor.stood.items ≡ (actor.node, 0) ∷ [] → AreRunsFrom tapes actor ended now → (lives : LivesOf tapes ended now) (over made : ℕ) (later : List (Ended T)) (after : Option (Run T))
      → ((from : List ℕ) → IsRun tapes n i from (made_of tapes ended now lives over made).last.run → AreRuns tapes n i from later after)
      → IsExecutionWith bytes (made_of tapes ended now lives over made) later after
  unfolding made_of
  execution_with compares bytes actor [] now opened stood are lives over made later after next =
      nothing_over bytes _ later after refl (next bytes (is_cut_run actor now stood are lives bytes opened made))
  execution_with compares bytes actor (run ∷ ended) now opened stood are lives zero made later after next =
      nothing_over bytes _ later after refl (next bytes (is_cut_run actor run.0 stood are.0 lives.0 bytes opened made))
  execution_with compares bytes actor (run ∷ ended) now opened stood are lives (suc over) made later after next =
      let follower = are.1 in
      let follows = are.2 in
      let whole = is_run actor run.0 stood are.0 lives.0 bytes opened in
      let id : follower.node.id ≡ i = follows.number ∙ same_id actor run.0 stood are.0 lives.0 opened.id in
      let among : follower.node.n ≡ n = follows.among ∙ same_n actor run.0 stood are.0 lives.0 opened.among in
      let from = bytes_at_first tapes ended now lives.1 in
      let opened_again = opened_next follower ended now follows.stood are.3 lives.1 id among in
      let halts : (last lives.0.run).halted ≡ true = ap (λ (node : Node T). node.halted) lives.0.now ∙ follows.halted in
      let compared : HasStoredAs (last lives.0.run) follower.node = subst (λ (node : Node T). HasStoredAs node follower.node) (sym lives.0.now) follows.stored in
      let left = compares n i bytes from lives.0.run follower.node whole halts opened_again compared in
      one_more bytes from (traced_by tapes run.0 lives.0) left.input (made_of tapes ended now lives.1 over made) later after whole left.leaves
      (items_by_acts i [] lives.0.run.acts lives.0.origins lives.0.received)
      (execution_with compares from follower ended now opened_again follows.stood are.3 lives.1 over made later after next)
