-- What was heard of the peers, as a text. Numbers have eight hexadecimal digits.
use Rattle.std.specs.Prelude.{◌≡◌, ◌≢◌, ℕ, ◌⊎◌, List, [], ◌∷◌, ◌++◌, codes, length, Option, Some, None, Result, Ok, Err}
use Rattle.hex.specs.Hex.{IsBytes}
use Rattle.wf_folder.specs.Words.{mark_then, number_then, reach_then}
use Rattle.wf_peer.specs.Greeting.{IsProgress}
use Rattle.wf_peer.specs.GreetingReply.{rejection_byte}
use Rattle.wf_peer.specs.Progress.{reach_of}
use Rattle.wf_peer.specs.declared.fault.PeerProgressFault.{PeerProgressFault}
use Rattle.wf_peer.specs.declared.heard.Heard.{Heard}
use Rattle.wf_peer.specs.declared.rejection.PeerRejection.{PeerRejection}

-- what was heard of a node is a progress, with an accusation or without one, or nothing
abbrev pub IsPeerProgress : Option Heard → Type 0
IsPeerProgress None = Unit {0}
IsPeerProgress (Some h) = IsProgress h.progress × IsBytes h.progress.mark × IsBytes h.progress.life

unfoldable pub ArePeerProgress : List (Option Heard) → Type 0
ArePeerProgress [] = Unit {0}
ArePeerProgress (node ∷ rest) = IsPeerProgress node × ArePeerProgress rest

-- an accusation, if there is one, the end of the line, and what follows
unfoldable pub accusation_then : Option PeerRejection → List ℕ → List ℕ
accusation_then None rest = codes "\n" ++ rest
accusation_then (Some why) rest = number_then (codes " accused ") (rejection_byte why) (codes "\n" ++ rest)

-- a node's line, and what follows
unfoldable pub line_then : Option Heard → List ℕ → List ℕ
line_then None rest = codes "nothing\n" ++ rest
line_then (Some h) rest =
    mark_then (codes "mark ") h.progress.mark (number_then (codes " starts ") h.progress.starts (mark_then (codes " life ") h.progress.life
    (reach_then (reach_of h.progress) (accusation_then h.accusation rest))))

-- the lines of the nodes, in their order
unfoldable pub lines_of : List (Option Heard) → List ℕ
lines_of [] = []
lines_of (node ∷ rest) = line_then node (lines_of rest)

-- the text, and that of version 1, which differs in its first line: no program wrote votes and
-- accusations after that one
abbrev pub peer_progress_line : List ℕ
peer_progress_line = codes "wfarm heard 2\n"

abbrev pub old_peer_progress_line : List ℕ
old_peer_progress_line = codes "wfarm heard 1\n"

abbrev pub peer_progress_text : List (Option Heard) → List ℕ
peer_progress_text known = peer_progress_line ++ lines_of known

abbrev pub old_peer_progress_text : List (Option Heard) → List ℕ
old_peer_progress_text known = old_peer_progress_line ++ lines_of known

abbrev pub IsProgressTextOf : List ℕ → List (Option Heard) → Type 0
IsProgressTextOf bytes known = (bytes ≡ peer_progress_text known) ⊎ (bytes ≡ old_peer_progress_text known)

-- what is read of the lines of so many nodes, if the bytes are that
abbrev pub ReadsLines : List ℕ → ℕ → List (Option Heard) → Result Unit PeerProgressFault → Type 0
ReadsLines bytes count nodes (Ok done) = (length nodes ≡ count) × ArePeerProgress nodes × (bytes ≡ lines_of nodes)
ReadsLines bytes count nodes (Err fault) = (others : List (Option Heard)) → length others ≡ count → ArePeerProgress others → bytes ≢ lines_of others
