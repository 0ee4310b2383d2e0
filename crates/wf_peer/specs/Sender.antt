-- Who may send a message, and what it tells of its sender's progress.
use Rattle.std.specs.Prelude.{◌≡◌, ℕ, ◌-◌, max, List, slice_index_or, slice_set, Option, Some, None}
use Rattle.wf_ballot.specs.Ballot.{Ballot}
use Rattle.wf_model.specs.Message.{Message, Prepare, Promise, Accept, Accepted, Nack, Chosen, Ask}
use Rattle.wf_model.specs.DurableState.{raised}
use Rattle.wf_folder.specs.Reach.{raised_vote}
use Rattle.wf_peer.specs.declared.heard.Heard.{Heard}
use Rattle.wf_peer.specs.declared.progress.Progress.{Progress}
use Rattle.wf_peer.specs.declared.rejection.PeerRejection.{PeerRejection}
use Rattle.wf_peer.specs.Progress.{IsNoLess, accused}

-- an answer names its sender, and a request's ballot is its sender's; a Chosen or an Ask may be any
-- node's
abbrev pub IsFrom : {V : Type 0} → ℕ → Message V → Type 0
IsFrom node (Prepare s b) = b.node ≡ node
IsFrom node (Promise sender s b votes) = sender ≡ node
IsFrom node (Accept s b d) = b.node ≡ node
IsFrom node (Accepted sender s b) = sender ≡ node
IsFrom node (Nack sender s b promise) = sender ≡ node
IsFrom node (Chosen s d) = Unit {0}
IsFrom node (Ask s) = Unit {0}

-- ---- what a message tells of its sender: it tried the round of its ballot; it made the promise of
-- its answer, and stored the vote of an Accepted; it published what it says is chosen, and what
-- comes before the sequence that it asks for
abbrev pub tried : Progress → ℕ → Progress
tried p round = record p { round = max p.round round }

abbrev pub promised : Progress → Ballot → Progress
promised p b = record p { promise = raised p.promise b }

abbrev pub voted : Progress → ℕ → Ballot → Progress
voted p s b = record p { vote = raised_vote p.vote (record { ballot = b; sequence = s }) }

abbrev pub publish_up_to : Progress → ℕ → Progress
publish_up_to p s = record p { published = max p.published s }

abbrev pub advance_by : {V : Type 0} → Progress → Message V → Progress
advance_by p (Prepare s b) = tried p b.round
advance_by p (Promise sender s b votes) = promised p b
advance_by p (Accept s b d) = tried p b.round
advance_by p (Accepted sender s b) = voted (promised p b) s b
advance_by p (Nack sender s b promise) = promised p promise
advance_by p (Chosen s d) = publish_up_to p s
advance_by p (Ask s) = publish_up_to p (s - 1)

-- ---- what was heard of each node of a farm, that of node i at index i

abbrev pub heard_of : List (Option Heard) → ℕ → Option Heard
heard_of known i = slice_index_or known i None

-- after a node's message: where it greeted, what that tells
abbrev pub with_reported : {V : Type 0} → List (Option Heard) → ℕ → Option Heard → Message V → List (Option Heard)
with_reported known i None m = known
with_reported known i (Some h) m = slice_set known i (Some (record h { progress = advance_by h.progress m }))

-- after it was told that it forgot something: where it greeted before, the accusation
abbrev pub with_accusation : List (Option Heard) → ℕ → Option Heard → PeerRejection → List (Option Heard)
with_accusation known i None why = known
with_accusation known i (Some h) why = slice_set known i (Some (accused h why))

-- nothing that was heard falls, and no accusation is forgotten
pub record HasStayed (old new : Heard) : Type 0 where
  pub no_less : IsNoLess old.progress new.progress
  pub accused_still : (why : PeerRejection) → old.accusation ≡ Some why → new.accusation ≡ Some why

abbrev pub NeverFalls : (old new : List (Option Heard)) → Type 0
NeverFalls old new = (i : ℕ) (h : Heard) → heard_of old i ≡ Some h → (g : Heard) × (heard_of new i ≡ Some g) × HasStayed h g
