-- The runs of `serve` on one folder are sessions on it.
use Rattle.std.proofs.Common.{◌≡◌, ℕ, zero, suc, List, [], ◌∷◌, ◌++◌, length, map, take, slice_get, Some, refl, sym, subst, ◌∙◌}
use Rattle.wf_execution.specs.Run.{Between}
use Rattle.wf_codec.specs.declared.message.Message.{Message}
use Rattle.wf_delivery.specs.Delivery.{StandAmong, StandInTurn}
use Rattle.wf_delivery.specs.Reachability.{AreFresh}
use Rattle.wf_def.specs.Definition.{Definition}
use Rattle.wf_model.specs.DurableState.{DurableState}
use Rattle.wf_node.specs.Images.{StandsFor}
use Rattle.wf_node.specs.Node.{Node}
use Rattle.wf_tape.specs.declared.tape.Tape.{Ghosts as Tape}
use Rattle.wf_runs.specs.Session.{SessionStep, stepped, AreStepsTaken}
use Rattle.wf_runs.specs.Folder.{IsFound, IsLeftAt, IsNewTape, IsSession, AreSessions}
use Rattle.wf_runs.specs.Theorems.{SessionsAreOneFarm}
use Rattle.wf_runs.specs.ServedSteps.{Ran, served_by, session_of, ReadsFrom, AreServiceRuns, RunsAreOneFarm, NewRunIsOneFarm}
use Rattle.wf_runs.proofs.Left.{nothing_stands}

module _ {M F : Type 0} (inside : Tape M) (outside : Tape F) (n : ℕ) where
  first_taken : (count : ℕ) (sent : List Message) (nodes : List (Node F)) (steps : List (SessionStep F)) → AreStepsTaken outside sent nodes steps → AreStepsTaken outside sent nodes (take count steps)
  first_taken zero sent nodes steps taken = tt
  first_taken (suc count) sent nodes [] taken = tt
  first_taken (suc count) sent nodes (step ∷ steps) taken = (taken.0, first_taken count (sent ++ step.act.outputs) (stepped nodes step) steps taken.1)

  opened : (found : ℕ → List ℕ → Type 0) (ran : Ran inside outside) → ran.service.nodes ≡ n → ReadsFrom inside outside found ran → (i : ℕ) (node : Node F) →
      slice_get (served_by inside outside ran).nodes i ≡ Some node → IsFound n i found node
  unfolding ReadsFrom StandAmong
  opened found ran many reads i node at =
      let served = served_by inside outside ran in
      let read = served.read.each i node at in
      let turn = served.have.in_turn i node at in
      record {
        bytes = read.bytes;
        may_be = reads i node at;
        opened = record { id = turn.0; among = turn.1 ∙ served.as_many ∙ many; runs = read.runs; stored = read.stored; idle = read.idle };
      }

  is_session : (found : ℕ → List ℕ → Type 0) (ran : Ran inside outside) → ran.service.nodes ≡ n → ReadsFrom inside outside found ran → IsSession outside n found (session_of inside outside ran)
  is_session found ran many reads = record {
    as_many = (served_by inside outside ran).as_many ∙ many;
    opened = opened found ran many reads;
    taken = first_taken ran.made [] (served_by inside outside ran).nodes ran.steps ran.course.reachable.taken;
  }

  are_sessions : (found : ℕ → List ℕ → Type 0) (runs : List (Ran inside outside)) → AreServiceRuns inside outside n found runs → AreSessions outside n found (map (session_of inside outside) runs)
  are_sessions found [] are = tt
  are_sessions found (ran ∷ later) are = (is_session found ran are.0 are.1, are_sessions (IsLeftAt (session_of inside outside ran)) later are.2)

pub runs_agree : {M F : Type 0} (inside : Tape M) (outside : Tape F) → SessionsAreOneFarm outside → RunsAreOneFarm inside outside
runs_agree inside outside theorem = λ n runs are.
    let folder = are_sessions inside outside n IsNewTape runs are in
    (folder, theorem n (map (session_of inside outside) runs) folder)

-- ---- new nodes in memory

new_found : {T : Type 0} (nodes : List (Node T)) → StandInTurn nodes → AreFresh nodes → (i : ℕ) (node : Node T) → slice_get nodes i ≡ Some node → IsFound (length nodes) i IsNewTape node
unfolding StandAmong AreFresh
new_found nodes turns fresh i node at =
    let turn = turns i node at in
    let new = fresh i node at in
    record {
      bytes = [];
      may_be = λ stored stands. stands;
      opened = record { id = turn.0; among = turn.1; runs = new.runs; stored = subst (λ (s : DurableState Definition). StandsFor s []) (sym new.stored) nothing_stands; idle = new.volatile };
    }

pub new_run_agrees : {M F : Type 0} (inside : Tape M) (outside : Tape F) → SessionsAreOneFarm inside → NewRunIsOneFarm inside outside
new_run_agrees inside outside theorem = λ service has none steps course.
    let served = has.memory none in
    theorem (length served.nodes) (record { nodes = served.nodes; steps = steps; ends = λ i. Between } ∷ [])
    (record { as_many = refl; opened = new_found served.nodes served.have.in_turn served.new; taken = course.reachable.taken }, tt)
