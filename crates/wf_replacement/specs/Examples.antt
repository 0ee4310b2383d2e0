-- An example, which shows that a replacement's premises can be met: process 2 of three is lost
-- before it has done anything, and replaced by a copy of what one of the others has published.
use Rattle.std.specs.Prelude.{ℕ, ◌+◌, ◌<◌, ◌≤◌, ◌≡◌, ◌≢◌, List, [], ◌∷◌, ◌++◌, length, slice_get, Some}
use Rattle.wf_journal.specs.Records.{ReadsAs}
use Rattle.wf_model.specs.VolatileState.{window}
use Rattle.wf_node.specs.Node.{Node}
use Rattle.wf_safety.specs.Replacement.{published_from}
use Rattle.wf_tape.specs.declared.tape.Tape.{Ghosts as Tape}
use Rattle.wf_replacement.specs.Timeline.{ProcessEvent, Opens, Loses, Rejoins, process_of, IsTimeline, node_at}
use Rattle.wf_replacement.specs.Rejoining.{EachMayRejoin}
use Rattle.wf_replacement.specs.Theorems.{IsWithoutLoss}

-- Three processes start, and process 2 is lost.
abbrev pub started : {T : Type 0} → Node T → Node T → Node T → List (ProcessEvent T)
started first second third = Opens 0 first ∷ Opens 1 second ∷ Opens 2 third ∷ Loses 2 ∷ []

-- The events, and then the replacement of process 2, are a timeline in which it may be replaced.
pub record EndsReplaced {T : Type 0} (tapes : Tape T) (events : List (ProcessEvent T)) (bytes : List ℕ) : Type 0 where
  pub timeline : IsTimeline tapes 3 (events ++ Rejoins 2 bytes ∷ [])
  pub may_rejoin : EachMayRejoin 3 (events ++ Rejoins 2 bytes ∷ [])

-- Then processes 0 and 1 go on, without a loss, until one of them has published at least as many
-- maps as a window has. Process 2 may be replaced by bytes that read as the records of these maps.
abbrev pub LostIsReplaced : {T : Type 0} → Tape T → Type 0
LostIsReplaced {T} tapes = (first second third : Node T) (more : List (ProcessEvent T)) (i : ℕ) (node : Node T) (bytes : List ℕ) → IsTimeline tapes 3 (started first second third ++ more) →
    IsWithoutLoss more → ((k : ℕ) (event : ProcessEvent T) → slice_get more k ≡ Some event → process_of event ≢ 2) →
    i < 3 → node_at (started first second third ++ more) (4 + length more) i ≡ Some node → window ≤ length node.parts.history → ReadsAs bytes (published_from 1 node.parts.history) →
    EndsReplaced tapes (started first second third ++ more) bytes
