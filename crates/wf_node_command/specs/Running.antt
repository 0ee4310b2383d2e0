-- A node that runs.
use Rattle.std.specs.Prelude.{◌≡◌, ◌∷◌, List, Option}
use Rattle.wf_loop.specs.Process.{Process}
use Rattle.wf_line.specs.declared.node_line.NodeLine.{NodeLine}
use Rattle.wf_loop.specs.Membership.{membership_by}
use Rattle.wf_membership.specs.declared.membership.Membership.{Membership}
use Rattle.wf_node_folder.specs.Ready.{IsNodeReady}
use Rattle.wf_node_folder.specs.declared.ready.ReadyNode.{ReadyNode}
use Rattle.wf_peer.specs.declared.heard.Heard.{Heard as HeardOfNode}
use Rattle.wf_store.specs.Call.{Call, locked}
use Rattle.wf_tape.specs.declared.tape.Tape.{Ghosts as Tape}

-- Its folder was locked, and these were the first calls: its start was admitted, and was counted.
-- It took no turn yet, and goes by what it had heard, and by what its plan says of replacements, as
-- it was when it was ready.
pub record IsRunning {T : Type 0} (tapes : Tape T) (line : NodeLine) (process : Process T tapes) (kept : List (Option HeardOfNode)) (membership : Membership) (old new : List Call) : Type 0 where
  pub ready : ReadyNode T tapes
  pub is_ready : IsNodeReady tapes line ready (locked ∷ old) new
  pub same : process ≡ ready.process
  pub heard : kept ≡ ready.heard
  pub goes_by : membership ≡ membership_by ready.plan
