-- By which values of its node a process answered clients.
use Rattle.std.specs.Prelude.{◌≡◌, ℕ, ◌<◌, ◌≤◌, List, length, slice_get, Some}
use Rattle.wf_execution.specs.Execution.{Execution}
use Rattle.wf_model.specs.Chosen.{IsIn}
use Rattle.wf_tape.specs.declared.tape.Tape.{Ghosts as Tape}
use Rattle.wf_voter.specs.declared.voter.Voter.{Voter}
use Rattle.wf_histories.specs.Advance.{run_of}
use Rattle.wf_histories.specs.Nodes.{NodeProcess}
use Rattle.wf_histories.specs.Theorems.{IsEver}

module _ {T : Type 0} (tapes : Tape T) where
  -- It was neither killed nor did it lose its power: it made all its acts.
  pub record HasMadeAll (p : NodeProcess tapes) : Type 0 where
    pub over : p.over ≡ length p.has.on.voter.process.ended.items
    pub made : length (run_of tapes p).run.acts ≤ p.made

  -- The node that answered a client of such a process of the farm is one that was ever.
  abbrev pub AnswersAreOfNodes : Type 0
  AnswersAreOfNodes = (n : ℕ) (before : ℕ → Execution T) (folders : ℕ → List (NodeProcess tapes)) (i : ℕ) (p : NodeProcess tapes) → i < n → IsIn p (folders i) → HasMadeAll p →
      (place count : ℕ) (voter : Voter T tapes) → slice_get p.has.on.befores place ≡ Some (voter, count) → ∥ IsEver tapes n before folders voter.process.actor.node ∥₁
