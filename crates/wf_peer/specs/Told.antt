-- What has to be heard of a peer before its message counts.
use Rattle.std.specs.Prelude.{◌≡◌, ◌≢◌, ℕ, ◌≤◌, ◌⊎◌, List, Option, Some, None, replicate}
use Rattle.wf_codec.specs.Message.{view}
use Rattle.wf_codec.specs.declared.message.Message.{Message as MessageOfCode}
use Rattle.wf_folder.specs.Reach.{IsNoLower}
use Rattle.wf_model.specs.Message.{Message, Prepare, Promise, Accept, Accepted, Nack, Chosen, Ask}
use Rattle.wf_peer.specs.PeerProgressText.{IsProgressTextOf}
use Rattle.wf_peer.specs.Sender.{heard_of}
use Rattle.wf_peer.specs.declared.heard.Heard.{Heard}
use Rattle.wf_peer.specs.declared.progress.Progress.{Progress}
use Rattle.wf_rejoin.specs.Replacements.{latest_of}
use Rattle.wf_rejoin.specs.declared.replacement.Replacement.{Replacement}

-- a message raises neither the round nor the promise of its sender, which is so far
abbrev pub TellsNoMore : {V : Type 0} → Progress → Message V → Type 0
TellsNoMore p (Prepare s b) = b.round ≤ p.round
TellsNoMore p (Promise sender s b votes) = IsNoLower (Some b) p.promise
TellsNoMore p (Accept s b d) = b.round ≤ p.round
TellsNoMore p (Accepted sender s b) = IsNoLower (Some b) p.promise
TellsNoMore p (Nack sender s b promise) = IsNoLower (Some promise) p.promise
TellsNoMore p (Chosen s d) = Unit {0}
TellsNoMore p (Ask s) = Unit {0}

-- its sender has greeted, and so much was heard of it
abbrev pub TellsNoMoreOf : {V : Type 0} → Option Heard → Message V → Type 0
TellsNoMoreOf None m = ⊥
TellsNoMoreOf (Some h) m = TellsNoMore h.progress m

abbrev pub IsHeardOf : {V : Type 0} → List (Option Heard) → ℕ → Message V → Type 0
IsHeardOf known i m = TellsNoMoreOf (heard_of known i) m

-- of each node whatever was heard before is heard later
abbrev pub HearAll : (earlier later : List (Option Heard)) → Type 0
HearAll earlier later = (i : ℕ) (m : MessageOfCode) → IsHeardOf earlier i (view m) → IsHeardOf later i (view m)

-- what the bytes of a file say was heard of the peers; nothing if there is no such file
abbrev pub IsHeardText : Option (List ℕ) → List (Option Heard) → Type 0
IsHeardText None known = known ≡ replicate 64 None
IsHeardText (Some bytes) known = IsProgressTextOf bytes known

-- ---- of one node

-- its round and its promise are no lower
abbrev pub IsPast : Option Heard → Option Heard → Type 0
IsPast None later = Unit {0}
IsPast (Some h) None = ⊥
IsPast (Some h) (Some g) = (h.progress.round ≤ g.progress.round) × IsNoLower h.progress.promise g.progress.promise

-- of each node
abbrev pub ArePast : (earlier later : List (Option Heard)) → Type 0
ArePast earlier later = (i : ℕ) → IsPast (heard_of earlier i) (heard_of later i)

-- ---- once folders have taken the place of others

-- What was heard of a node is left where its folder is that of the node's latest replacement, or
-- the node was never replaced.
abbrev pub IsHeardLeft : Option Heard → Option Replacement → Option Heard → Type 0
IsHeardLeft None latest left = left ≡ None
IsHeardLeft (Some h) None left = left ≡ Some h
IsHeardLeft (Some h) (Some r) left = ((h.progress.mark ≡ r.mark) × (left ≡ Some h)) ⊎ ((h.progress.mark ≢ r.mark) × (left ≡ None))

-- of each node
abbrev pub AreLeft : List (Option Heard) → List (Option Replacement) → List (Option Heard) → Type 0
AreLeft known latest left = (i : ℕ) → IsHeardLeft (heard_of known i) (latest_of latest i) (heard_of left i)
