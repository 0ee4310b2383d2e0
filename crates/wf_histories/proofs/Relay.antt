-- The runs of an execution that has ended, and others that went on from what it left.
use Rattle.std.proofs.Common.{◌≡◌, ℕ, List, [], ◌∷◌, ◌++◌, Option, Some, None, refl, sym, ap, ◌∙◌, append_assoc}
use Rattle.wf_execution.specs.Execution.{AreRuns, Ended, items_at, items_by, items_in, values_in, values_of}
use Rattle.wf_execution.specs.Continuation.{left_by}
use Rattle.wf_execution.specs.Run.{Run}
use Rattle.wf_journal.specs.Records.{AreReadOneWay}
use Rattle.wf_tape.specs.declared.tape.Tape.{Ghosts as Tape}
use Rattle.wf_histories.specs.Nodes.{StandsAsBefore}
use Rattle.wf_histories.proofs.Left.{left_before, opened_empty}

regroup : {A : Type 0} (xs ys ws zs : List A) → xs ++ (ys ++ (ws ++ zs)) ≡ (xs ++ (ys ++ ws)) ++ zs
regroup xs ys ws zs = ap (λ l. xs ++ l) (sym (append_assoc ys ws zs)) ∙ sym (append_assoc xs (ys ++ ws) zs)

module _ {T : Type 0} (tapes : Tape T) (n i : ℕ) where
  -- the first run was opened from an empty tape
  pub from_empty : AreReadOneWay → (bytes : List ℕ) (ended : List (Ended T)) (now : Option (Run T)) → StandsAsBefore [] bytes → AreRuns tapes n i bytes ended now → AreRuns tapes n i [] ended now
  from_empty one_way bytes [] None before runs = tt
  from_empty one_way bytes [] (Some run) before runs = record { opened = opened_empty one_way n i bytes run.first before runs.opened; done = runs.done }
  from_empty one_way bytes (ended ∷ later) now before runs =
      (record { run = record { opened = opened_empty one_way n i bytes ended.run.first before runs.0.run.opened; done = runs.0.run.done }; left = runs.0.left }, runs.1)

  -- Both together are runs from these bytes on, with the items and the values of both.
  pub record AreBoth (bytes : List ℕ) (first ended : List (Ended T)) (now : Option (Run T)) : Type 0 where
    pub all : List (Ended T)
    pub runs : AreRuns tapes n i bytes all now
    pub its_items : items_in i all now ≡ items_in i first None ++ items_in i ended now
    pub its_values : values_of all now ≡ values_of first None ++ values_of ended now

  both_after : (bytes : List ℕ) (one : Ended T) (more : List (Ended T)) (from : List ℕ) (ended : List (Ended T)) (now : Option (Run T)) → AreRuns tapes n i bytes (one ∷ more) None
      → StandsAsBefore (left_by bytes (one ∷ more)) from → AreRuns tapes n i from ended now → AreBoth bytes (one ∷ more) ended now
  unfolding items_in values_of left_by
  both_after bytes one [] from ended now are before runs = record {
    all = record { run = one.run; end = one.end; left = from } ∷ ended;
    runs = (record { run = are.0.run; left = left_before one.left from before one.run one.end are.0.left }, runs);
    its_items = regroup (items_by i one.run.acts) (items_at i one.end) [] (items_in i ended now);
    its_values = sym (append_assoc (values_in one.run) [] (values_of ended now));
  }
  both_after bytes one (two ∷ more) from ended now are before runs =
      let rest = both_after one.left two more from ended now are.1 before runs in
      record {
        all = one ∷ rest.all;
        runs = (are.0, rest.runs);
        its_items =
            ap (λ xs. items_by i one.run.acts ++ (items_at i one.end ++ xs)) rest.its_items
            ∙ regroup (items_by i one.run.acts) (items_at i one.end) (items_in i (two ∷ more) None) (items_in i ended now);
        its_values =
            ap (λ xs. values_in one.run ++ xs) rest.its_values
            ∙ sym (append_assoc (values_in one.run) (values_of (two ∷ more) None) (values_of ended now));
      }

  pub both_runs : AreReadOneWay → (first : List (Ended T)) (from : List ℕ) (ended : List (Ended T)) (now : Option (Run T)) → AreRuns tapes n i [] first None → StandsAsBefore (left_by [] first) from
      → AreRuns tapes n i from ended now → AreBoth [] first ended now
  unfolding items_in values_of left_by
  both_runs one_way [] from ended now are before runs = record { all = ended; runs = from_empty one_way from ended now before runs; its_items = refl; its_values = refl }
  both_runs one_way (one ∷ more) from ended now are before runs = both_after [] one more from ended now are before runs
