-- Whether a peer is let in.
use Rattle.std.specs.Prelude.{◌≡◌, ◌≢◌, ◌⊎◌, ℕ, ◌<◌, Bool, true, false, List, Option, Some, None}
use Rattle.wf_folder.specs.Reach.{IsNoLower, IsNoLowerVote, open_vote}
use Rattle.wf_peer.specs.declared.admission.Own.{Own}
use Rattle.wf_peer.specs.declared.greeting.Greeting.{Greeting}
use Rattle.wf_peer.specs.declared.heard.Heard.{Heard}
use Rattle.wf_peer.specs.declared.progress.Progress.{Progress}
use Rattle.wf_peer.specs.declared.rejection.PeerRejection.{PeerRejection}
use Rattle.wf_peer.specs.declared.rejection.PeerRejection.TheVariants as causes
use Rattle.wf_peer.specs.declared.state.NodeState.{NodeState}
use Rattle.wf_peer.specs.declared.state.NodeState.TheVariants as states
use Rattle.wf_peer.specs.Progress.{HasKept, IsAccusedOf, IsSameStart, progress_in}
use Rattle.wf_rejoin.specs.Admission.{IsFolderCause, IsFolderTaken}
use Rattle.wf_rejoin.specs.Replacements.{count_of, latest_of}
use Rattle.wf_rejoin.specs.declared.admission.FolderRejection.TheVariants as folder_causes
use Rattle.wf_rejoin.specs.declared.admission.GreetedFolder.{GreetedFolder}
use Rattle.wf_rejoin.specs.declared.agreement.Hindrance.{Hindrance}
use Rattle.wf_rejoin.specs.declared.agreement.Hindrance.TheVariants as hindrances
use Rattle.wf_rejoin.specs.declared.replacement.Replacement.{Replacement}

-- it is the node that is listed; where none was dialed, another node of the farm
abbrev pub IsPlaced : Own → Option ℕ → ℕ → Type 0
IsPlaced own (Some index) node = node ≡ index
IsPlaced own None node = (node < own.nodes) × (node ≢ own.node)

-- the digests agree, as far as this node has one
abbrev pub AgreesWith : Option (List ℕ) → List ℕ → Type 0
AgreesWith None claimed = Unit {0}
AgreesWith (Some own) claimed = own ≡ claimed

-- ---- the folder of a peer

abbrev pub is_joins : NodeState → Bool
is_joins states.Joins = true
is_joins _ = false

-- The folder that greets: its mark, the count that it says of its own replacement, and whether it
-- joins.
abbrev pub greeted_folder : Greeting → GreetedFolder
greeted_folder g = record { replacement = record { count = count_of (latest_of g.replacements g.node); mark = g.progress.mark }; joins = is_joins g.state }

-- by what is known of replacements, it is the one that is taken for the node's
abbrev pub IsNodesFolder : List (Option Replacement) → Greeting → Type 0
IsNodesFolder replaced g = IsFolderTaken (latest_of replaced g.node) (greeted_folder g)

-- why it isn't
abbrev pub IsFolderRejection : Option Replacement → GreetedFolder → PeerRejection → Type 0
IsFolderRejection known g causes.NotBegun = IsFolderCause known g folder_causes.NotBegun
IsFolderRejection known g causes.NotTold = IsFolderCause known g folder_causes.NotTold
IsFolderRejection known g causes.Retired = (k : Replacement) × IsFolderCause known g (folder_causes.Retired k)
IsFolderRejection known g _ = ⊥

-- what keeps a node that is in this state from voting, if anything does
abbrev pub hindrance_of : NodeState → Option Hindrance
hindrance_of states.Serves = None
hindrance_of states.Halted = Some hindrances.Halted
hindrance_of states.Suspended = Some hindrances.Suspended
hindrance_of states.Joins = Some hindrances.Joins
hindrance_of states.Outvoted = Some hindrances.Outvoted

-- ---- who is let in, and who isn't

-- A peer of the same farm, at its place, whose folder is the node's and wasn't accused, that forgot
-- nothing of what was heard of it, and whose history agrees.
pub record IsAdmitted (own : Own) (replaced : List (Option Replacement)) (index : Option ℕ) (heard : Option Heard) (digest : Option (List ℕ)) (g : Greeting) : Type 0 where
  pub farm : g.farm ≡ own.farm
  pub nodes : g.nodes ≡ own.nodes
  pub node : IsPlaced own index g.node
  pub folder : IsNodesFolder replaced g
  pub unaccused : (why : PeerRejection) → ¬ IsAccusedOf heard g.progress.mark why
  pub kept : HasKept (progress_in heard) g.progress
  pub agrees : AgreesWith digest g.digest

-- what is less than was heard
abbrev pub IsLess : (known claimed : Progress) → PeerRejection → Type 0
IsLess known claimed causes.OtherMark = claimed.mark ≢ known.mark
IsLess known claimed causes.OlderStart = claimed.starts < known.starts
IsLess known claimed causes.OtherLife = (claimed.starts ≡ known.starts) × (claimed.life ≢ known.life)
IsLess known claimed causes.LowerRound = claimed.round < known.round
IsLess known claimed causes.LowerPromise = ¬ IsNoLower known.promise claimed.promise
IsLess known claimed causes.LowerVote = ¬ IsNoLowerVote (open_vote known.vote claimed.published) claimed.vote
IsLess known claimed causes.LowerSequence = claimed.published < known.published
IsLess known claimed _ = ⊥

-- of another start than was heard
abbrev pub IsForgotten : Option Progress → Progress → PeerRejection → Type 0
IsForgotten None claimed why = ⊥
IsForgotten (Some known) claimed why = (¬ IsSameStart known claimed) × IsLess known claimed why

-- it says that it is of this farm, and the node that it has to be; a node that doesn't is told of
-- nothing that it forgot
pub record IsPeer (own : Own) (index : Option ℕ) (g : Greeting) : Type 0 where
  pub farm : g.farm ≡ own.farm
  pub nodes : g.nodes ≡ own.nodes
  pub node : IsPlaced own index g.node

-- what a peer forgot, or its other history, if nothing was forgotten
abbrev pub IsPeersCause : Option Progress → Option (List ℕ) → Greeting → PeerRejection → Type 0
IsPeersCause known digest g causes.OtherHistory = HasKept known g.progress × (¬ AgreesWith digest g.digest)
IsPeersCause known digest g why = IsForgotten known g.progress why

-- its folder is another one than the node's; or what it forgot, if it isn't
abbrev pub IsFoldersCause : List (Option Replacement) → Option Progress → Option (List ℕ) → Greeting → PeerRejection → Type 0
IsFoldersCause replaced known digest g causes.NotBegun = IsFolderRejection (latest_of replaced g.node) (greeted_folder g) causes.NotBegun
IsFoldersCause replaced known digest g causes.NotTold = IsFolderRejection (latest_of replaced g.node) (greeted_folder g) causes.NotTold
IsFoldersCause replaced known digest g causes.Retired = IsFolderRejection (latest_of replaced g.node) (greeted_folder g) causes.Retired
IsFoldersCause replaced known digest g why = IsNodesFolder replaced g × IsPeersCause known digest g why

-- what else is a cause
abbrev pub IsOtherCause : Own → List (Option Replacement) → Option ℕ → Option Progress → Option (List ℕ) → Greeting → PeerRejection → Type 0
IsOtherCause own replaced index known digest g causes.OtherFarm = g.farm ≢ own.farm
IsOtherCause own replaced index known digest g causes.OtherNodes = g.nodes ≢ own.nodes
IsOtherCause own replaced index known digest g causes.OtherNode = ¬ IsPlaced own index g.node
IsOtherCause own replaced index known digest g why = IsPeer own index g × IsFoldersCause replaced known digest g why

-- the cause is one: its folder was accused of it before, or it is so now
abbrev pub IsRejectionCause : Own → List (Option Replacement) → Option ℕ → Option Heard → Option (List ℕ) → Greeting → PeerRejection → Type 0
IsRejectionCause own replaced index heard digest g why =
    (IsPeer own index g × IsNodesFolder replaced g × IsAccusedOf heard g.progress.mark why) ⊎ IsOtherCause own replaced index (progress_in heard) digest g why
