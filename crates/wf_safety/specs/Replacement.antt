-- A node that lost its disk goes on from another stored state: runs with such replacements, what
-- that state must have, and the theorems.
use Rattle.std.specs.Prelude.{◌≡◌, ◌≢◌, ◌⊎◌, ℕ, suc, ◌+◌, ◌*◌, ◌<◌, ◌≤◌, Bool, true, ⊤, List, [], ◌∷◌, ◌++◌, slice_get, Option, Some, None}
use Rattle.wf_ballot.specs.Ballot.{Ballot}
use Rattle.wf_ballot.specs.Majority.{count_nodes}
use Rattle.wf_ballot.specs.Sequence.{last_sequence}
use Rattle.wf_model.specs.Message.{Vote, Message, Promise, Accept, Accepted}
use Rattle.wf_model.specs.DurableState.{DurableState, Record, Published, published, definition_at, fold}
use Rattle.wf_model.specs.VolatileState.{VolatileState, window}
use Rattle.wf_model.specs.World.{Node, World, Event, with_node, happens, start, after}
use Rattle.wf_model.specs.Chosen.{IsIn, IsChosen, history}
use Rattle.wf_safety.specs.Theorems.{NodeHas, node_of, IsInWindow, IsBeginning, AgreementIn}

-- ---- runs with replacements

-- A change of a world: an event of the model; or a replacement, by which a stopped node's stored
-- state becomes this one.
pub data Change (V : Type 0) : Type 0 where
  Occurs : (event : Event V) → Change V
  Replaces : (node : ℕ) (stored : DurableState V) → Change V

-- A running node can't be replaced.
unfoldable pub replace_stopped : {V : Type 0} → World V → ℕ → DurableState V → Option (VolatileState V) → World V
replace_stopped w i stored None = with_node w i stored None
replace_stopped w i stored (Some volatile) = w

unfoldable pub after_replacement : {V : Type 0} → World V → ℕ → DurableState V → Option (Node V) → World V
after_replacement w i stored None = w
after_replacement w i stored (Some node) = replace_stopped w i stored node.volatile

module _ {V : Type 0} (same : V → V → Bool) where
  unfoldable pub world_changed : World V → Change V → World V
  world_changed w (Occurs event) = happens same w event
  world_changed w (Replaces i stored) = after_replacement w i stored (slice_get w.nodes i)

  unfoldable pub changes : World V → List (Change V) → World V
  changes w [] = w
  changes w (change ∷ rest) = changes (world_changed w change) rest

-- the world after these changes, from a start of n new nodes
unfoldable pub after_changes : {V : Type 0} → (V → V → Bool) → ℕ → List (Change V) → World V
after_changes same n list = changes same (start n) list

-- the events as changes
unfoldable pub without_loss : {V : Type 0} → List (Event V) → List (Change V)
without_loss [] = []
without_loss (event ∷ events) = Occurs event ∷ without_loss events

-- ---- the state that a replaced node goes on from

-- no votes and no promise; the round may be any
pub record IsCopy {V : Type 0} (stored : DurableState V) : Type 0 where
  pub no_votes : (s : ℕ) → stored.votes s ≡ None
  pub no_promise : stored.promise ≡ None

-- each of these definitions, sequence 1 first, is chosen
abbrev pub AreChosen : {V : Type 0} → ℕ → List (Message V) → List V → Type 0
AreChosen {V} n sent definitions = (s : ℕ) (d : V) → definition_at definitions s ≡ Some d → IsChosen n sent s d

-- the state has chosen definitions alone
pub record HasChosenAlone {V : Type 0} (n : ℕ) (sent : List (Message V)) (stored : DurableState V) : Type 0 where
  pub copy : IsCopy stored
  pub chosen : AreChosen n sent stored.history

-- The state, which has chosen definitions alone, covers all that node i may have said while its
-- stored state was the old one: it has published as much, and as far as each sequence at which i
-- voted or asked for votes, and as the window of each of its promises.
pub record Covers {V : Type 0} (n : ℕ) (sent : List (Message V)) (i : ℕ) (old stored : DurableState V) : Type 0 where
  pub chosen_alone : HasChosenAlone n sent stored
  pub grown : published old ≤ published stored
  pub voted : (s : ℕ) (b : Ballot) → IsIn (Accepted i s b) sent → s ≤ published stored
  pub asked : (s : ℕ) (b : Ballot) (d : V) → IsIn (Accept s b d) sent → b.node ≡ i → s ≤ published stored
  pub promised : (s : ℕ) (b : Ballot) (votes : List (Option (Vote V))) → IsIn (Promise i s b votes) sent → (t : ℕ) → IsInWindow s t → t ≤ published stored

-- a replacement's state covers what its node may have said
abbrev pub IsCovered : {V : Type 0} → ℕ → World V → Change V → Type 0
IsCovered n w (Occurs event) = ⊤
IsCovered {V} n w (Replaces i stored) = (old : DurableState V) → slice_get w.nodes i ≡ Some (record { stored = old; volatile = None }) → Covers n w.sent i old stored

-- that of each change, in the world in which it happens
abbrev pub AreCovered : {V : Type 0} → (V → V → Bool) → ℕ → World V → List (Change V) → Type 0
AreCovered same n w [] = ⊤
AreCovered same n w (change ∷ rest) = IsCovered n w change × AreCovered same n (world_changed same w change) rest

-- If each replacement's state covers what its node may have said, agreement holds at every time,
-- and no published list loses a definition, through replacements too. A run of events alone is such
-- a run.
pub record AgreementWithReplacements (V : Type 0) : Type 0 where
  pub facts : (same : V → V → Bool) (n : ℕ) (list : List (Change V)) → AreCovered same n (start n) list → AgreementIn n (after_changes same n list)
  pub grows : (same : V → V → Bool) (n i : ℕ) (list more : List (Change V)) → AreCovered same n (start n) (list ++ more) →
      IsBeginning (history (after_changes same n list) i) (history (after_changes same n (list ++ more)) i)
  pub events_alone : (same : V → V → Bool) (n : ℕ) (events : List (Event V)) → after_changes same n (without_loss events) ≡ after same n events
  pub events_covered : (same : V → V → Bool) (n : ℕ) (events : List (Event V)) → AreCovered same n (start n) (without_loss events)

-- ---- what is asked of the other nodes

-- no sequence after m is published in this state, or has a vote
pub record IsUpTo {V : Type 0} (stored : DurableState V) (m : ℕ) : Type 0 where
  pub published_to : published stored ≤ m
  pub voted_to : (s : ℕ) → m < s → stored.votes s ≡ None

-- At some moment of these changes, from the world on, P held of the stored state of node j.
pub record HeldOnce {V : Type 0} (same : V → V → Bool) (w : World V) (since : List (Change V)) (P : DurableState V → Type 0) (j : ℕ) : Type 0 where
  pub earlier : List (Change V)
  pub later : List (Change V)
  pub moment : earlier ++ later ≡ since
  pub stored : DurableState V
  pub node : NodeHas (changes same w earlier) j stored
  pub held : P stored

-- the node that a change is about
abbrev pub node_changed : {V : Type 0} → Change V → ℕ
node_changed (Occurs event) = node_of event
node_changed (Replaces i stored) = i

-- none of the changes is about node i
abbrev pub AreElsewhere : {V : Type 0} → ℕ → List (Change V) → Type 0
AreElsewhere i [] = ⊤
AreElsewhere i (change ∷ rest) = (node_changed change ≢ i) × AreElsewhere i rest

-- Since node i did anything, at least half of all n nodes were asked, each at a moment of its own,
-- and P held of what they had stored then.
pub record HeldOfHalf {V : Type 0} (same : V → V → Bool) (n : ℕ) (w : World V) (since : List (Change V)) (i : ℕ) (P : DurableState V → Type 0) : Type 0 where
  pub silent : AreElsewhere i since
  pub asked : ℕ → Bool
  pub half : n ≤ 2 * count_nodes n asked
  pub each : (j : ℕ) → j < n → asked j ≡ true → HeldOnce same w since P j

-- The guard: each of them was up to m.
abbrev pub Guard : {V : Type 0} → (V → V → Bool) → ℕ → World V → List (Change V) → ℕ → ℕ → Type 0
Guard {V} same n w since i m = HeldOfHalf same n w since i (λ (stored : DurableState V). IsUpTo stored m)

-- the state has all definitions up to a whole window after m, or all that there can be
abbrev pub HasWindowAfter : {V : Type 0} → ℕ → DurableState V → Type 0
HasWindowAfter m stored = (m + window ≤ published stored) ⊎ (last_sequence ≤ published stored)

-- Under the guard each state that has chosen definitions alone, up to a window after m, covers what
-- node i may have said.
abbrev pub GuardCovers : Type 0 → Type 0
GuardCovers V = (same : V → V → Bool) (n i m : ℕ) (before since : List (Change V)) (old stored : DurableState V) →
    AreCovered same n (start n) (before ++ since) → Guard same n (after_changes same n before) since i m →
    NodeHas (after_changes same n (before ++ since)) i old → HasChosenAlone n (after_changes same n (before ++ since)).sent stored →
    HasWindowAfter m stored → Covers n (after_changes same n (before ++ since)).sent i old stored

-- ---- agreement under the guard

-- A replacement after these changes: the guard holds of some last part of them; and the state is a
-- copy of what some node had published by then, up to a window after what was asked.
pub record IsGuarded {V : Type 0} (same : V → V → Bool) (n : ℕ) (changes : List (Change V)) (i : ℕ) (stored : DurableState V) : Type 0 where
  pub before : List (Change V)
  pub since : List (Change V)
  pub parts : before ++ since ≡ changes
  pub m : ℕ
  pub guard : Guard same n (after_changes same n before) since i m
  pub copy : IsCopy stored
  pub known : List (Change V)
  pub rest : List (Change V)
  pub by_then : known ++ rest ≡ changes
  pub source : ℕ
  pub copied : IsBeginning stored.history (history (after_changes same n known) source)
  pub far : HasWindowAfter m stored

abbrev pub IsGuardedChange : {V : Type 0} → (V → V → Bool) → ℕ → List (Change V) → Change V → Type 0
IsGuardedChange same n before (Occurs event) = ⊤
IsGuardedChange same n before (Replaces i stored) = IsGuarded same n before i stored

-- each replacement among the changes, after those before it
abbrev pub AreGuarded : {V : Type 0} → (V → V → Bool) → ℕ → List (Change V) → List (Change V) → Type 0
AreGuarded same n before [] = ⊤
AreGuarded same n before (change ∷ rest) = IsGuardedChange same n before change × AreGuarded same n (before ++ change ∷ []) rest

-- If each replacement is guarded, agreement holds at every time, and no published list loses a
-- definition, through replacements too: of whichever nodes, one after the other or at once.
pub record AgreementUnderGuard (V : Type 0) : Type 0 where
  pub facts : (same : V → V → Bool) (n : ℕ) (list : List (Change V)) → AreGuarded same n [] list → AgreementIn n (after_changes same n list)
  pub grows : (same : V → V → Bool) (n i : ℕ) (list more : List (Change V)) → AreGuarded same n [] (list ++ more) →
      IsBeginning (history (after_changes same n list) i) (history (after_changes same n (list ++ more)) i)
  pub covered : (same : V → V → Bool) (n : ℕ) (list : List (Change V)) → AreGuarded same n [] list → AreCovered same n (start n) list

-- ---- tapes

-- the records by which these definitions are published, that of sequence s first
unfoldable pub published_from : {V : Type 0} → ℕ → List V → List (Record V)
published_from s [] = []
published_from s (d ∷ definitions) = Published s d ∷ published_from (suc s) definitions

-- A tape of published records alone folds to a state that has these definitions, and chosen ones
-- alone.
pub record IsCopiedTape {V : Type 0} (n : ℕ) (sent : List (Message V)) (definitions : List V) : Type 0 where
  pub stored : DurableState V
  pub folded : fold (published_from 1 definitions) ≡ Some stored
  pub history : stored.history ≡ definitions
  pub chosen_alone : HasChosenAlone n sent stored

-- That is so of each list of chosen definitions.
abbrev pub CopiedTapes : Type 0 → Type 0
CopiedTapes V = (n : ℕ) (sent : List (Message V)) (definitions : List V) → AreChosen n sent definitions → IsCopiedTape n sent definitions
