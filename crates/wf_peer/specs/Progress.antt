-- What is never taken back: a node's progress, compared with what was heard of it.
use Rattle.std.specs.Prelude.{◌≡◌, ℕ, ◌≤◌, ◌⊎◌, max, if◌then◌else◌, List, Option, Some, None}
use Rattle.wf_folder.specs.Reach.{IsNoLower, IsNoLowerVote, higher_promise, higher_vote, open_vote}
use Rattle.wf_folder.specs.declared.reach.Reach.{Reach}
use Rattle.wf_peer.specs.declared.heard.Heard.{Heard}
use Rattle.wf_peer.specs.declared.progress.Progress.{Progress}
use Rattle.wf_peer.specs.declared.rejection.PeerRejection.{PeerRejection}
use Rattle.wf_peer.specs.GreetingReply.{accuses}

-- how far a node is, and a start of a node that is so far
abbrev pub reach_of : Progress → Reach
reach_of p = record { round = p.round; promise = p.promise; vote = p.vote; published = p.published }

abbrev pub at_reach : Progress → Reach → Progress
at_reach p r = record p { round = r.round; promise = r.promise; vote = r.vote; published = r.published }

-- of one folder: no older a start, which is the same one if it has the same number, and no less
pub record IsNoLess (known claimed : Progress) : Type 0 where
  pub mark : claimed.mark ≡ known.mark
  pub starts : known.starts ≤ claimed.starts
  pub life : claimed.starts ≡ known.starts → claimed.life ≡ known.life
  pub round : known.round ≤ claimed.round
  pub promise : IsNoLower known.promise claimed.promise
  pub vote : IsNoLowerVote known.vote claimed.vote
  pub published : known.published ≤ claimed.published

-- what a node has to have still, once it has published so far: a vote at a sequence that it has
-- published needn't be there
abbrev pub owed : Progress → ℕ → Progress
owed known published = record known { vote = open_vote known.vote published }

-- one start of one folder
pub record IsSameStart (known claimed : Progress) : Type 0 where
  pub mark : claimed.mark ≡ known.mark
  pub starts : claimed.starts ≡ known.starts
  pub life : claimed.life ≡ known.life

-- Nothing that was heard is forgotten: one start forgets nothing, but what it says comes on several
-- connections, so less may come after more; a later start says no less than it has to have still.
abbrev pub HasKept : Option Progress → Progress → Type 0
HasKept None claimed = Unit {0}
HasKept (Some known) claimed = IsSameStart known claimed ⊎ IsNoLess (owed known claimed.published) claimed

-- ---- what was heard and what is said, together: the start that says it, and of each the more
abbrev pub together : Progress → Progress → Progress
together known claimed = record claimed {
  round = max known.round claimed.round;
  promise = higher_promise known.promise claimed.promise;
  vote = higher_vote known.vote claimed.vote;
  published = max known.published claimed.published;
}

-- ---- what was heard of a peer, and what it forgot, if it was told so

-- how far it is, as it was heard
abbrev pub progress_in : Option Heard → Option Progress
progress_in None = None
progress_in (Some h) = Some h.progress

-- a peer that was let in greeted: an accusation stays
abbrev pub greeted : Option Heard → Progress → Heard
greeted None claimed = record { progress = claimed; accusation = None }
greeted (Some h) claimed = record h { progress = together h.progress claimed }

-- a peer is told that it forgot something: the first accusation stays
abbrev pub first_accusation : Option PeerRejection → PeerRejection → Option PeerRejection
first_accusation (Some earlier) why = Some earlier
first_accusation None why = if accuses why then Some why else None

abbrev pub accused : Heard → PeerRejection → Heard
accused h why = record h { accusation = first_accusation h.accusation why }

-- the folder with this mark was accused of this
abbrev pub IsAccusedOf : Option Heard → List ℕ → PeerRejection → Type 0
IsAccusedOf None mark why = ⊥
IsAccusedOf (Some h) mark why = (h.accusation ≡ Some why) × (mark ≡ h.progress.mark)
