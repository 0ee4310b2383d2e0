-- What is written to the files of a node's folder that are no tapes: a text that is read back as
-- what it says.
use Rattle.std.specs.Prelude.{◌≡◌, ◌⊎◌, ℕ, ⊤, List, [], Option, length}
use Rattle.wf_folder.specs.NodeFile.{IsNodeFile, node_text}
use Rattle.wf_folder.specs.declared.node_file.NodeFile.{NodeFile}
use Rattle.wf_peer.specs.PeerProgressText.{ArePeerProgress, peer_progress_text}
use Rattle.wf_peer.specs.declared.heard.Heard.{Heard as HeardOfNode}
use Rattle.wf_rejoin.specs.JoiningText.{IsJoins, joins_text}
use Rattle.wf_rejoin.specs.Lines.{AreAll}
use Rattle.wf_rejoin.specs.ReplacementsText.{IsEntry, replaced_text}
use Rattle.wf_rejoin.specs.declared.joining.Joining.{Joining}
use Rattle.wf_rejoin.specs.declared.replacement.Replacement.{Replacement}
use Rattle.wf_store.specs.declared.file_name.FileName.{FileName}
use Rattle.wf_store.specs.declared.file_name.FileName.TheVariants as names

-- that of a node's file `farm`
abbrev pub IsFarmText : List ℕ → Type 0
IsFarmText text = (file : NodeFile) × IsNodeFile file × (text ≡ node_text file)

-- that of a file `heard`: what was heard of each of 64 nodes
abbrev pub IsPeersText : List ℕ → Type 0
IsPeersText text = (known : List (Option HeardOfNode)) × (length known ≡ 64) × ArePeerProgress known × (text ≡ peer_progress_text known)

-- that of a file `replaced`: the latest replacement of each of 64 nodes
abbrev pub IsReplacedText : List ℕ → Type 0
IsReplacedText text = (known : List (Option Replacement)) × (length known ≡ 64) × AreAll IsEntry known × (text ≡ replaced_text known)

-- that of a file `joins`: what a folder that joins was told; nothing once it has joined
abbrev pub IsJoinsText : List ℕ → Type 0
IsJoinsText text = (text ≡ []) ⊎ ((joining : Joining) × IsJoins joining × (text ≡ joins_text joining))

-- that of the file of this name; of a tape any
abbrev pub IsSoundText : FileName → List ℕ → Type 0
IsSoundText names.Farm text = IsFarmText text
IsSoundText names.Heard text = IsPeersText text
IsSoundText names.Joins text = IsJoinsText text
IsSoundText names.Replaced text = IsReplacedText text
IsSoundText (names.NodeTape node) text = ⊤
IsSoundText names.ReplicaTape text = ⊤
