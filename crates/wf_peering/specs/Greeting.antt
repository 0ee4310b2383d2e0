-- What a node says of itself to its peers.
use Rattle.std.specs.Prelude.{◌≡◌, Bool, true, false}
use Rattle.wf_membership.specs.declared.gate.Gate.{Gate}
use Rattle.wf_membership.specs.declared.gate.Gate.TheVariants as gates
use Rattle.wf_node.specs.Node.{Node}
use Rattle.wf_peer.specs.Progress.{reach_of}
use Rattle.wf_peer.specs.declared.progress.Progress.{Progress}
use Rattle.wf_peer.specs.declared.state.NodeState.{NodeState}
use Rattle.wf_peer.specs.declared.state.NodeState.TheVariants as states
use Rattle.wf_voter.specs.Reach.{IsReachOf}

-- What the node says of itself when it greets: this start of its folder, and how far it is now.
pub record IsGreetedWith {T : Type 0} (start : Progress) (node : Node T) (said : Progress) : Type 0 where
  pub mark : said.mark ≡ start.mark
  pub starts : said.starts ≡ start.starts
  pub life : said.life ≡ start.life
  pub reach : IsReachOf node (reach_of said)

-- What it does now, the first that is so: it is suspended; it is halted, or can't write to its
-- folder; its folder joins; it is outvoted; or it serves.
abbrev pub state_by : (gate : Gate) (halted joins outvoted : Bool) → NodeState
state_by gates.Suspended halted joins outvoted = states.Suspended
state_by gates.Unwritten halted joins outvoted = states.Halted
state_by _ true joins outvoted = states.Halted
state_by _ false true outvoted = states.Joins
state_by _ false false true = states.Outvoted
state_by _ false false false = states.Serves
