-- The processes of the nodes of a farm are a farm of `wf_execution`.
use Rattle.std.proofs.Common.{◌≡◌, ◌⊎◌, ℕ, ◌<◌, ◌≤◌, List, [], ◌∷◌, ◌++◌, Option, None, sym, ap, subst, ◌∙◌, inl, inr, arith, append-nil}
use Rattle.std.proofs.lemmas.Bool.{cases_lt}
use Rattle.wf_actor.specs.Farm.{AreOwn, RunsAreOwn, Step, items}
use Rattle.wf_execution.specs.Execution.{AreRuns, Execution, IsExecution, IsFarm, Item, items_in, items_of, values, values_of}
use Rattle.wf_execution.specs.Continuation.{left}
use Rattle.wf_execution.specs.CrashImages.{ComparisonLeaves}
use Rattle.wf_execution.specs.Run.{Run}
use Rattle.wf_execution.specs.Theorems.{outputs_in}
use Rattle.wf_journal.specs.Records.{AreReadOneWay}
use Rattle.wf_tape.specs.declared.tape.Tape.{Ghosts as Tape}
use Rattle.wf_histories.specs.Carried.{AreStepsCome, SentAreCarried}
use Rattle.wf_histories.specs.Nodes.{AreNodeProcesses, AreOnFolder, NodeProcess, steps_on, values_ever, values_on}
use Rattle.wf_histories.specs.Theorems.{AreFarm, NodesAreOneFarm}
use Rattle.wf_histories.proofs.Acts.{items_of_steps}
use Rattle.wf_histories.proofs.Carried.{all_come}
use Rattle.wf_histories.proofs.Folders.{execution_from, come_on, own_on}
use Rattle.wf_histories.proofs.Relay.{both_runs}
use Rattle.wf_histories.proofs.Turns.{in_turn, own_both, turn_both}

module _ {T : Type 0} (tapes : Tape T) (n i : ℕ) where
  -- the execution of the node, which goes on from the one before
  record ExecutionOf (before : Execution T) (processes : List (NodeProcess tapes)) : Type 0 where
    execution : Execution T
    is : IsExecution tapes n i execution
    its_items : items_in i execution.ended execution.now ≡ items_in i before.ended None ++ items (steps_on tapes i processes)
    its_values : values execution ≡ values_of before.ended None ++ values_on tapes processes

  execution_of : AreReadOneWay → ComparisonLeaves tapes → (before : Execution T) (processes : List (NodeProcess tapes)) → AreRuns tapes n i [] before.ended None → AreOnFolder tapes n i (left before) processes
      → ExecutionOf before processes
  unfolding steps_on values_on
  execution_of one_way compares before [] runs are = record {
    execution = record { ended = before.ended; now = None };
    is = runs;
    its_items = sym (append-nil (items_in i before.ended None));
    its_values = sym (append-nil (values_of before.ended None));
  }
  execution_of one_way compares before (p ∷ later) runs are =
      let so = execution_from tapes n i compares p later (left before) are in
      let both = both_runs tapes n i one_way before.ended _ so.ended so.now runs are.1 so.runs in
      record {
        execution = record { ended = both.all; now = so.now };
        is = both.runs;
        its_items = both.its_items ∙ ap (λ xs. items_in i before.ended None ++ xs) (sym so.its_items);
        its_values = both.its_values ∙ ap (λ xs. values_of before.ended None ++ xs) so.its_values;
      }

module _ {T : Type 0} (tapes : Tape T) (one_way : AreReadOneWay) (compares : ComparisonLeaves tapes) (n : ℕ) (before : ℕ → Execution T) (earlier : List Item) (folders : ℕ → List (NodeProcess tapes)) (steps : List Step)
    (farm : IsFarm tapes n before earlier) (are : AreNodeProcesses tapes n before (outputs_in earlier) folders steps) where
  its_execution : (i : ℕ) → i < n → ExecutionOf tapes n i (before i) (folders i)
  its_execution i less =
      execution_of tapes n i one_way compares (before i) (folders i) (subst (λ (now : Option (Run T)). AreRuns tapes n i [] (before i).ended now) (are.ended i less) (farm.each i less)) (are.on_folders i less)

  execution_by : (i : ℕ) → (i < n) ⊎ (n ≤ i) → Execution T
  execution_by i (inl less) = (its_execution i less).execution
  execution_by i (inr beyond) = before i

  none_beyond : (i : ℕ) → i < n → n ≤ i → ⊥
  none_beyond i less beyond = omega (arith, less, beyond)

  is_execution : (i : ℕ) (d : (i < n) ⊎ (n ≤ i)) → i < n → IsExecution tapes n i (execution_by i d)
  unfolding execution_by
  is_execution i (inl it) less = (its_execution i it).is
  is_execution i (inr beyond) less = absurd (none_beyond i less beyond)

  -- its items: those from before, and those of its steps
  items_before : (i : ℕ) → i < n → items_of i earlier ≡ items_in i (before i).ended None
  items_before i less = farm.own i less ∙ ap (λ (now : Option (Run T)). items_in i (before i).ended now) (are.ended i less)

  are_its_items : (i : ℕ) (d : (i < n) ⊎ (n ≤ i)) → i < n → items_of i (earlier ++ items steps) ≡ items_in i (execution_by i d).ended (execution_by i d).now
  unfolding execution_by
  are_its_items i (inl it) less =
      own_both i earlier (items steps)
      ∙ ap (λ xs. xs ++ items_of i (items steps)) (items_before i it)
      ∙ ap (λ xs. items_in i (before i).ended None ++ xs) (items_of_steps i steps ∙ ap items (are.in_order i it))
      ∙ sym (its_execution i it).its_items
  are_its_items i (inr beyond) less = absurd (none_beyond i less beyond)

  are_its_values : (i : ℕ) (d : (i < n) ⊎ (n ≤ i)) → i < n → values (execution_by i d) ≡ values_ever tapes before folders i
  unfolding execution_by
  are_its_values i (inl it) less =
      (its_execution i it).its_values
      ∙ ap (λ (now : Option (Run T)). values_of (before i).ended now ++ values_on tapes (folders i)) (sym (are.ended i it))
  are_its_values i (inr beyond) less = absurd (none_beyond i less beyond)

  abbrev executions : ℕ → Execution T
  executions i = execution_by i (cases_lt i n)

  -- what was given to it from peers came on their connections
  come : AreStepsCome steps
  come = all_come n steps are.members
      (λ i less. subst (λ (own : List Step). AreStepsCome own) (sym (are.in_order i less)) (come_on tapes n i (left (before i)) (folders i) (are.on_folders i less)))

  pub are_farm : RunsAreOwn → SentAreCarried → AreFarm tapes n before earlier folders steps
  are_farm together carried = record {
    executions = executions;
    farm = record {
      each = λ i less. is_execution i (cases_lt i n) less;
      own = λ i less. are_its_items i (cases_lt i n) less;
      in_turn = turn_both n [] earlier (items steps) farm.in_turn
          (in_turn n steps (outputs_in earlier) (λ i. []) are.members (λ i m none. absurd none)
          (λ i less. subst (λ (own : List Step). AreOwn [] own) (sym (are.in_order i less)) (own_on tapes n i together (left (before i)) (folders i) (are.on_folders i less)))
          (carried (outputs_in earlier) steps come are.connected));
    };
    held = λ i less. are_its_values i (cases_lt i n) less;
  }

pub nodes_are_farm : AreReadOneWay → {T : Type 0} (tapes : Tape T) → ComparisonLeaves tapes → RunsAreOwn → SentAreCarried → NodesAreOneFarm tapes
nodes_are_farm one_way tapes compares together carried = λ n before earlier folders steps farm are. are_farm tapes one_way compares n before earlier folders steps farm are together carried
