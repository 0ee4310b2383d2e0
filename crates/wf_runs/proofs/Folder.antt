-- Sessions on one folder are one farm of processes.
use Rattle.std.proofs.Common.{◌≡◌, ◌⊎◌, ℕ, ◌<◌, ◌≤◌, List, [], ◌∷◌, Option, Some, None, refl, subst, inl, inr, arith}
use Rattle.std.proofs.lemmas.Bool.{cases_lt}
use Rattle.std.proofs.lemmas.Option.{none-some, slice_get_within}
use Rattle.wf_execution.specs.Run.{Run}
use Rattle.wf_execution.specs.Execution.{Execution, Ended, AreRuns, IsExecution, items_of, items_in, values_of}
use Rattle.wf_execution.specs.Continuation.{unstarted}
use Rattle.wf_journal.specs.Records.{AreReadOneWay}
use Rattle.wf_node.specs.Node.{Node}
use Rattle.wf_tape.specs.declared.tape.Tape.{Ghosts as Tape}
use Rattle.wf_runs.specs.Session.{NodeSession}
use Rattle.wf_runs.specs.Folder.{IsNewTape, IsFolder, moments, WasAt}
use Rattle.wf_runs.specs.Theorems.{IsOneFarm, FolderIsOneFarm}
use Rattle.wf_runs.proofs.Executions.{Lived, lived}
use Rattle.wf_runs.proofs.Items.{all_items}
use Rattle.wf_runs.proofs.Left.{opened_empty}
use Rattle.wf_runs.proofs.Moments.{ShownBoth, shown_both, all_long, long_at}
use Rattle.wf_runs.proofs.Turns.{all_turn}

-- ---- no session

nothing_own : (T : Type 0) (i : ℕ) → items_of i [] ≡ items_in {T = T} i [] None
unfolding items_of items_in
nothing_own T i = refl

no_moment : {T : Type 0} (k i : ℕ) (node : Node T) → WasAt [] k i node → ⊥
unfolding moments
no_moment k i node at = none-some at.nodes at.then

no_sessions : {T : Type 0} (tapes : Tape T) (n : ℕ) → IsOneFarm tapes n []
no_sessions {T} tapes n = record {
  executions = unstarted;
  items = [];
  farm = record { each = λ i less. tt; own = λ i less. nothing_own T i; in_turn = tt };
  order = λ k l i node next less at then. absurd (no_moment k i node at);
}

-- ---- some

module _ {T : Type 0} (theorem : AreReadOneWay) (tapes : Tape T) (n : ℕ) (session : NodeSession T) (later : List (NodeSession T)) (are : IsFolder tapes n (session ∷ later)) where
  life : (i : ℕ) → i < n → Lived tapes n i IsNewTape (session ∷ later)
  life i less = lived tapes n i less IsNewTape session later are

  -- the first run was opened from an empty tape
  from_empty : (i : ℕ) (is : Lived tapes n i IsNewTape (session ∷ later)) → AreRuns tapes n i [] is.ended is.now
  from_empty i is = begins is.ended is.now is.runs
    where
      begins : (ended : List (Ended T)) (now : Option (Run T)) → AreRuns tapes n i is.bytes ended now → AreRuns tapes n i [] ended now
      begins [] None runs = tt
      begins [] (Some run) runs = record { opened = opened_empty theorem n i is.bytes run.first is.may_be runs.opened; done = runs.done }
      begins (ended ∷ more) now runs =
          (record { run = record { opened = opened_empty theorem n i is.bytes ended.run.first is.may_be runs.0.run.opened; done = runs.0.run.done }; left = runs.0.left }, runs.1)

  execution_by : (i : ℕ) → (i < n) ⊎ (n ≤ i) → Execution T
  execution_by i (inl less) = record { ended = (life i less).ended; now = (life i less).now }
  execution_by i (inr beyond) = unstarted i

  abbrev executions : ℕ → Execution T
  executions i = execution_by i (cases_lt i n)

  none_beyond : (i : ℕ) → i < n → n ≤ i → ⊥
  none_beyond i less beyond = omega (arith, less, beyond)

  is_execution : (i : ℕ) (d : (i < n) ⊎ (n ≤ i)) → i < n → IsExecution tapes n i (execution_by i d)
  unfolding execution_by
  is_execution i (inl it) less = from_empty i (life i it)
  is_execution i (inr beyond) less = absurd (none_beyond i less beyond)

  its_items : (i : ℕ) (d : (i < n) ⊎ (n ≤ i)) → i < n → items_of i (all_items n (session ∷ later)) ≡ items_in i (execution_by i d).ended (execution_by i d).now
  unfolding execution_by
  its_items i (inl it) less = (life i it).items
  its_items i (inr beyond) less = absurd (none_beyond i less beyond)

  shown_by : (k l i : ℕ) (node next : Node T) → k ≤ l → WasAt (session ∷ later) k i node → WasAt (session ∷ later) l i next → (d : (i < n) ⊎ (n ≤ i)) → i < n →
      ShownBoth i (values_of (execution_by i d).ended (execution_by i d).now) node next
  unfolding execution_by
  shown_by k l i node next order at then (inl it) less =
      shown_both i (moments (session ∷ later)) (values_of (life i it).ended (life i it).now) k l at.nodes then.nodes node next (life i it).show order at.then at.there then.then then.there
  shown_by k l i node next order at then (inr beyond) less = absurd (none_beyond i less beyond)

  member : (k i : ℕ) (node : Node T) → WasAt (session ∷ later) k i node → i < n
  member k i node at =
      let long = long_at n (moments (session ∷ later)) k at.nodes (all_long tapes n IsNewTape (session ∷ later) are) at.then in
      subst (λ m. i < m) long (slice_get_within at.nodes i node at.there)

  pub one_farm : IsOneFarm tapes n (session ∷ later)
  one_farm = record {
    executions = executions;
    items = all_items n (session ∷ later);
    farm = record {
      each = λ i less. is_execution i (cases_lt i n) less;
      own = λ i less. its_items i (cases_lt i n) less;
      in_turn = all_turn tapes n IsNewTape [] (session ∷ later) are;
    };
    order = λ k l i node next order at then.
        let less = member k i node at in
        let shown = shown_by k l i node next order at then (cases_lt i n) less in
        record { is_member = less; moment = shown.index; later = shown.later; order = shown.order; at = shown.at; then = shown.then };
  }

pub folder_is_one_farm : AreReadOneWay → {T : Type 0} (tapes : Tape T) → FolderIsOneFarm tapes
folder_is_one_farm theorem {T} tapes = farm
  where
    farm : (n : ℕ) (sessions : List (NodeSession T)) → IsFolder tapes n sessions → IsOneFarm tapes n sessions
    farm n [] are = no_sessions tapes n
    farm n (session ∷ later) are = one_farm theorem tapes n session later are
