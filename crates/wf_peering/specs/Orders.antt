-- What is written to the folder about replacements, and how far the node is.
use Rattle.std.specs.Prelude.{◌≡◌, List, Some}
use Rattle.wf_folder.specs.Reach.{IsReachNoLess}
use Rattle.wf_folder.specs.declared.node_file.NodeFile.{NodeFile}
use Rattle.wf_folder.specs.declared.reach.Reach.{Reach}
use Rattle.wf_peer_connections.specs.declared.order.Order.{Order}
use Rattle.wf_peer_connections.specs.declared.order.Order.TheVariants as orders
use Rattle.wf_node.specs.Node.{Node}
use Rattle.wf_rejoin.specs.ReplacementsText.{replaced_text}
use Rattle.wf_store.specs.Call.{Call}
use Rattle.wf_store.specs.Texts.{is_replaced, text_in}
use Rattle.wf_voter.specs.Folder.{IsTold, JoinsNoMore}
use Rattle.wf_voter.specs.Reach.{IsReachOf}

-- by what was last written to its file, or read of it, the folder says what it was to say
abbrev pub IsOrderKept : Order → List Call → Type 0
IsOrderKept (orders.Note latest) calls = text_in is_replaced calls ≡ Some (replaced_text latest)
IsOrderKept (orders.Join step) calls = IsTold step calls
IsOrderKept orders.Joined calls = JoinsNoMore calls

-- The file `farm` says that the node is known to have been no less far than it is.
pub record IsReachKept {T : Type 0} (node : Node T) (file : NodeFile) : Type 0 where
  pub reach : Reach
  pub is_reach : IsReachOf node reach
  pub kept : IsReachNoLess reach file.known.reach
