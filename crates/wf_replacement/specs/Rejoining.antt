-- The guard: when a process that lost its disk may go on from a copy of what was published.
use Rattle.std.specs.Prelude.{◌≡◌, ◌≢◌, ℕ, ◌*◌, ◌<◌, ◌≤◌, Bool, true, false, List, slice_get, Some}
use Rattle.wf_ballot.specs.Majority.{count_nodes}
use Rattle.wf_def.specs.Definition.{Definition}
use Rattle.wf_journal.specs.Records.{ReadsAs}
use Rattle.wf_node.specs.Node.{Node, stored_of}
use Rattle.wf_safety.specs.Replacement.{IsUpTo, HasWindowAfter, published_from}
use Rattle.wf_safety.specs.Theorems.{IsBeginning}
use Rattle.wf_replacement.specs.Timeline.{ProcessEvent, Rejoins, process_of, node_at, HoldsCopy}

-- nothing happens to process i between the two moments
abbrev pub IsSilent : {T : Type 0} → List (ProcessEvent T) → ℕ → ℕ → ℕ → Type 0
IsSilent {T} events since until i = (k : ℕ) (event : ProcessEvent T) → since ≤ k → k < until → slice_get events k ≡ Some event → process_of event ≢ i

-- At some moment between the two, process j ran, and its node had published nothing after m, and
-- stored no vote after m. A node whose tape has failed can't say so: its tape may stand for more
-- than the node shows.
pub record WasAsked {T : Type 0} (events : List (ProcessEvent T)) (since until m j : ℕ) : Type 0 where
  pub moment : ℕ
  pub after : since ≤ moment
  pub before : moment ≤ until
  pub node : Node T
  pub at : node_at events moment j ≡ Some node
  pub runs : node.halted ≡ false
  pub up_to : IsUpTo (stored_of node) m

-- Process i, which is lost, may go on from these bytes at this moment. Since anything happened to
-- it, at least half of all n processes were asked, each at a moment of its own, while it ran; so
-- they are others than process i. Each was up to m. The bytes stand for a copy of what some process
-- had published by then, up to a window after m, or of all that there can be.
pub record MayRejoin {T : Type 0} (n : ℕ) (events : List (ProcessEvent T)) (until i : ℕ) (bytes : List ℕ) : Type 0 where
  pub since : ℕ
  pub earlier : since ≤ until
  pub silent : IsSilent events since until i
  pub m : ℕ
  pub asked : ℕ → Bool
  pub half : n ≤ 2 * count_nodes n asked
  pub each : (j : ℕ) → j < n → asked j ≡ true → WasAsked events since until m j
  pub holds : HoldsCopy bytes
  pub far : HasWindowAfter m holds.stored
  pub known : ℕ
  pub by_then : known ≤ until
  pub source : ℕ
  pub is_member : source < n
  pub node : Node T
  pub at : node_at events known source ≡ Some node
  pub copied : IsBeginning holds.stored.history node.parts.history

-- so does each process that is replaced
abbrev pub EachMayRejoin : {T : Type 0} → ℕ → List (ProcessEvent T) → Type 0
EachMayRejoin {T} n events = (k i : ℕ) (bytes : List ℕ) → slice_get events k ≡ Some (Rejoins i bytes) → MayRejoin n events k i bytes

-- ---- the tape of a process that is replaced

-- the bytes hold a copy of exactly these definitions
pub record HoldsExactly (bytes : List ℕ) (definitions : List Definition) : Type 0 where
  pub holds : HoldsCopy bytes
  pub history : holds.stored.history ≡ definitions

-- So do bytes that read as the records by which they are published, one after the other.
abbrev pub CopiesAreHeld : Type 0
CopiesAreHeld = (bytes : List ℕ) (definitions : List Definition) → ReadsAs bytes (published_from 1 definitions) → HoldsExactly bytes definitions
