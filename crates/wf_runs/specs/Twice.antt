-- An example: a node on a disk in memory that is opened, takes a step, loses its power, and is
-- opened again.
use Rattle.std.specs.Prelude.{◌≡◌, ℕ, List, [], ◌∷◌, length}
use Rattle.wf_execution.specs.Run.{IsOpenedFrom}
use Rattle.wf_node.specs.Images.{StandsFor}
use Rattle.wf_node.specs.Node.{Node, stored_of}
use Rattle.wf_tape.specs.declared.tape.Tape.{Ghosts as Tape}
use Rattle.wf_runs.specs.Session.{NodeSession}
use Rattle.wf_runs.specs.Folder.{IsFolder}

-- Node i of n was opened from bytes that stand for what the other node had stored.
pub record IsOpenedAgain {T : Type 0} (n i : ℕ) (node again : Node T) : Type 0 where
  pub bytes : List ℕ
  pub stands : StandsFor (stored_of node) bytes
  pub opened : IsOpenedFrom n i bytes again

-- Two sessions on one folder that was new, of one node: it took a step in the first, and the second
-- opened it as this one.
pub record AreTwoSessions {T : Type 0} (tapes : Tape T) (again : Node T) : Type 0 where
  pub first : NodeSession T
  pub second : NodeSession T
  pub folder : IsFolder tapes 1 (first ∷ (second ∷ []))
  pub stepped : length first.steps ≡ 1
  pub opened : second.nodes ≡ again ∷ []
