-- The processes on one folder are the execution of their node.
use Rattle.std.proofs.Common.{◌≡◌, ℕ, List, [], ◌∷◌, ◌++◌, Option, Some, refl, sym, ap, subst, ◌∙◌, append-nil, append_assoc}
use Rattle.std.proofs.lemmas.List.{map-append}
use Rattle.wf_actor.specs.Farm.{AreOwn, RunsAreOwn, Step, item_of, items}
use Rattle.wf_actor.specs.declared.actor.Actor.{Actor}
use Rattle.wf_actor.specs.declared.actor.Origin.{Origin}
use Rattle.wf_execution.specs.Execution.{AreRuns, Ended, items_at, items_by, items_in, values_in, values_of}
use Rattle.wf_execution.specs.CrashImages.{ComparisonLeaves}
use Rattle.wf_execution.specs.Run.{Between, RunEnd, Failed, IsOpenedFrom, IsRun, Run, Within, outputs}
use Rattle.wf_codec.specs.declared.message.Message.{Message}
use Rattle.wf_voter.specs.Continuation.{AreRunsFrom}
use Rattle.wf_node.specs.Node.{stored_of}
use Rattle.wf_node_folder.specs.Folder.{StandsForRead, tape_in}
use Rattle.wf_tape.specs.declared.tape.Tape.{Ghosts as Tape}
use Rattle.wf_histories.specs.Carried.{AreStepsCome}
use Rattle.wf_histories.specs.Nodes.{AreOnFolder, HasEndedBefore, IsCutGiven, IsProcessOf, NodeProcess, bytes_read, cut_before, cut_step, made_by, steps_on, values_on}
use Rattle.wf_histories.specs.Runs.{steps_made, steps_over, values_made, values_over}
use Rattle.wf_histories.proofs.Acts.{IsReceived, items_made, made_come, own_made, received_of}
use Rattle.wf_histories.proofs.Executions.{IsExecutionWith, execution_with}
use Rattle.wf_histories.proofs.Carried.{come_both}
use Rattle.wf_histories.proofs.Left.{left_before}

items_cut : (i : ℕ) (end : RunEnd) (origin : Origin) → items (cut_step i end origin) ≡ items_at i end
items_cut i Between origin = refl
items_cut i (Within input) origin = refl
items_cut i (Failed input) origin = refl

own_cut : (i : ℕ) (emitted : List Message) (end : RunEnd) (origin : Origin) → IsCutGiven emitted end origin → AreOwn emitted (cut_step i end origin)
unfolding AreOwn
own_cut i emitted Between origin given = tt
own_cut i emitted (Within input) origin given = (given.0, tt)
own_cut i emitted (Failed input) origin given = tt

come_cut : (i : ℕ) (emitted : List Message) (end : RunEnd) (origin : Origin) → IsCutGiven emitted end origin → AreStepsCome (cut_step i end origin)
unfolding AreStepsCome
come_cut i emitted Between origin given = tt
come_cut i emitted (Within input) origin given = (given.1, tt)
come_cut i emitted (Failed input) origin given = tt

module _ {T : Type 0} (tapes : Tape T) (n i : ℕ) where
  -- ---- one process

  pub received : (p : NodeProcess tapes) → IsReceived (made_by tapes p)
  received p = received_of tapes p.has.on.voter.process.ended.items p.has.on.voter.process.actor p.lives p.over p.made

  -- what was read of the tape last, before the node was served, is what was compared
  last_read : (p : NodeProcess tapes) → tape_in p.has.begun ≡ Some (bytes_read tapes p)
  last_read p =
      let counted = p.has.is_start.is_counted in
      ap tape_in counted.is_counted.calls ∙ (ap tape_in counted.is_on_tape.calls ∙ ap tape_in counted.is_on_tape.is_compared.calls)

  pub opened_as : (p : NodeProcess tapes) → IsProcessOf tapes n i p → IsOpenedFrom n i (bytes_read tapes p) p.has.started.actor.node
  opened_as p is =
      let opened = p.has.is_started.opened in
      record {
        id = opened.number ∙ is.number;
        among = opened.among ∙ is.among;
        runs = opened.runs;
        stored = subst (λ (had : Option (List ℕ)). StandsForRead (stored_of p.has.started.actor.node) had) (last_read p) p.has.on_read;
        idle = opened.idle;
      }

  -- its runs follow one another from its start on
  pub all_runs : (p : NodeProcess tapes) → AreRunsFrom tapes p.has.started.actor p.has.on.voter.process.ended.items p.has.on.voter.process.actor
  all_runs p =
      let earlier = p.has.on.earlier in
      let none = p.has.is_started.first in
      subst (λ (ended : List (Actor T tapes × ℕ)). AreRunsFrom tapes p.has.started.actor ended p.has.on.voter.process.actor)
      (sym (earlier.ended ∙ ap (λ (runs : List (Actor T tapes × ℕ)). runs ++ earlier.since) none)) earlier.runs

  pub with_later : ComparisonLeaves tapes → (p : NodeProcess tapes) → IsProcessOf tapes n i p → (later : List (Ended T)) (now : Option (Run T))
      → ((from : List ℕ) → IsRun tapes n i from (made_by tapes p).last.run → AreRuns tapes n i from later now) → IsExecutionWith tapes n i (bytes_read tapes p) (made_by tapes p) later now
  with_later compares p is later now next =
      execution_with tapes n i compares (bytes_read tapes p) p.has.started.actor p.has.on.voter.process.ended.items p.has.on.voter.process.actor (opened_as p is)
      p.has.is_started.begun.stood (all_runs p) p.lives p.over p.made later now next

  -- ---- all of them

  -- Runs of an execution from these bytes, whose items are those of the processes' steps, and whose
  -- values are theirs.
  pub record AreExecution (bytes : List ℕ) (processes : List (NodeProcess tapes)) : Type 0 where
    pub ended : List (Ended T)
    pub now : Option (Run T)
    pub runs : AreRuns tapes n i bytes ended now
    pub its_items : items (steps_on tapes i processes) ≡ items_in i ended now
    pub its_values : values_of ended now ≡ values_on tapes processes

  pub last_execution : ComparisonLeaves tapes → (p : NodeProcess tapes) → IsProcessOf tapes n i p → AreExecution (bytes_read tapes p) (p ∷ [])
  unfolding steps_on values_on items_in values_of
  last_execution compares p is =
      let made = made_by tapes p in
      let so = with_later compares p is [] (Some made.last.run) (λ from run. run) in
      record {
        ended = so.ended;
        now = Some made.last.run;
        runs = so.runs;
        its_items = ap items (append-nil (steps_made i made)) ∙ items_made i made (received p) ∙ sym so.its_items;
        its_values = so.its_values ∙ sym (append-nil (values_made made));
      }

  more_execution : ComparisonLeaves tapes → (p next : NodeProcess tapes) (later : List (NodeProcess tapes)) (left : List ℕ) → AreOnFolder tapes n i left (p ∷ (next ∷ later)) → AreExecution (bytes_read tapes next) (next ∷ later)
      → AreExecution (bytes_read tapes p) (p ∷ (next ∷ later))
  unfolding steps_on values_on items_in values_of
  more_execution compares p next later left are rest =
      let made = made_by tapes p in
      let over : Ended T = record { run = made.last.run; end = p.end; left = bytes_read tapes next } in
      let so = with_later compares p are.0 (over ∷ rest.ended) rest.now
      (λ from run. (record { run = run; left = left_before p.left (bytes_read tapes next) are.3.1 made.last.run p.end are.2.0 }, rest.runs)) in
      record {
        ended = so.ended;
        now = rest.now;
        runs = so.runs;
        its_items =
            map-append item_of (steps_made i made) (cut_step i p.end p.cut_from ++ steps_on tapes i (next ∷ later))
            ∙ ap (λ xs. xs ++ items (cut_step i p.end p.cut_from ++ steps_on tapes i (next ∷ later))) (items_made i made (received p))
            ∙ ap (λ xs. (items (steps_over i made.over) ++ items_by i made.last.run.acts) ++ xs)
            (map-append item_of (cut_step i p.end p.cut_from) (steps_on tapes i (next ∷ later))
            ∙ ap (λ xs. xs ++ items (steps_on tapes i (next ∷ later))) (items_cut i p.end p.cut_from)
            ∙ ap (λ xs. items_at i p.end ++ xs) rest.its_items)
            ∙ append_assoc (items (steps_over i made.over)) (items_by i made.last.run.acts) (items_at i p.end ++ items_in i rest.ended rest.now)
            ∙ sym so.its_items;
        its_values =
            so.its_values
            ∙ sym (append_assoc (values_over made.over) (values_in made.last.run) (values_of rest.ended rest.now))
            ∙ ap (λ xs. values_made made ++ xs) rest.its_values;
      }

  pub execution_from : ComparisonLeaves tapes → (p : NodeProcess tapes) (later : List (NodeProcess tapes)) (left : List ℕ) → AreOnFolder tapes n i left (p ∷ later) → AreExecution (bytes_read tapes p) (p ∷ later)
  execution_from compares p [] left are = last_execution compares p are.0
  execution_from compares p (next ∷ later) left are = more_execution compares p next later left are (execution_from compares next later p.left are.3)

  -- ---- what they hear

  cut_given : (p : NodeProcess tapes) (later : List (NodeProcess tapes)) → HasEndedBefore tapes later p →
      AreOwn (outputs (made_by tapes p).last.run.acts) (cut_before tapes i later p.end p.cut_from) × AreStepsCome (cut_before tapes i later p.end p.cut_from)
  unfolding AreOwn AreStepsCome
  cut_given p [] ended = (tt, tt)
  cut_given p (next ∷ later) ended =
      let emitted = outputs (made_by tapes p).last.run.acts in
      (own_cut i emitted p.end p.cut_from ended.1, come_cut i emitted p.end p.cut_from ended.1)

  -- they hear only their own messages
  pub own_on : RunsAreOwn → (left : List ℕ) (processes : List (NodeProcess tapes)) → AreOnFolder tapes n i left processes → AreOwn [] (steps_on tapes i processes)
  unfolding steps_on AreOwn
  own_on together left [] are = tt
  own_on together left (p ∷ later) are =
      let first = steps_made i (made_by tapes p) in
      let cut = cut_before tapes i later p.end p.cut_from in
      let rest = steps_on tapes i later in
      subst (λ (steps : List Step). AreOwn [] steps) (append_assoc first cut rest)
      (together [] (first ++ cut) rest (own_made together i (made_by tapes p) cut (received p) (cut_given p later are.2).0) (own_on together p.left later are.3))

  -- and what came on connections from their peers
  pub come_on : (left : List ℕ) (processes : List (NodeProcess tapes)) → AreOnFolder tapes n i left processes → AreStepsCome (steps_on tapes i processes)
  unfolding steps_on AreStepsCome
  come_on left [] are = tt
  come_on left (p ∷ later) are =
      let first = steps_made i (made_by tapes p) in
      let cut = cut_before tapes i later p.end p.cut_from in
      let rest = steps_on tapes i later in
      come_both first (cut ++ rest) (made_come tapes i p.has.on.voter.process.ended.items p.has.on.voter.process.actor p.lives p.come p.over p.made)
      (come_both cut rest (cut_given p later are.2).1 (come_on p.left later are.3))
