-- Whether the nodes of a farm may start on what is in a folder: its file `farm`, and its tapes,
-- that of node i at index i.
use Rattle.std.specs.Prelude.{◌≡◌, ◌≢◌, ◌≤◌, ◌<◌, ℕ, Bool, true, false, List, slice_index_or}
use Rattle.wf_folder.specs.declared.admission.FoundFile.{FoundFile}
use Rattle.wf_folder.specs.declared.admission.FoundFile.TheVariants as finds
use Rattle.wf_folder.specs.declared.admission.StartRejection.{StartRejection}
use Rattle.wf_folder.specs.declared.admission.StartRejection.TheVariants as causes
use Rattle.wf_folder.specs.declared.admission.Start.{Start}
use Rattle.wf_folder.specs.declared.admission.Start.TheVariants as starts
use Rattle.wf_folder.specs.declared.farm_file.FarmFile.{FarmFile}
use Rattle.wf_folder.specs.declared.presence.Presence.{Presence}
use Rattle.wf_folder.specs.declared.presence.Presence.TheVariants.{Absent, Empty, Written}

-- the file is there
abbrev pub is_there : Presence → Bool
is_there Absent = false
is_there Empty = true
is_there Written = true

-- it has a byte
abbrev pub has_byte : Presence → Bool
has_byte Absent = false
has_byte Empty = false
has_byte Written = true

-- the tape of a node is there, or has a byte; there is none past the end of the list
abbrev pub IsTapeThere : List Presence → ℕ → Type 0
IsTapeThere tapes i = is_there (slice_index_or tapes i Absent) ≡ true

abbrev pub HasByte : List Presence → ℕ → Type 0
HasByte tapes i = has_byte (slice_index_or tapes i Absent) ≡ true

-- the tapes of n nodes are all there
abbrev pub AllAreThere : ℕ → List Presence → Type 0
AllAreThere nodes tapes = (i : ℕ) → i < nodes → IsTapeThere tapes i

-- no tape of another node is
abbrev pub NoneIsSurplus : ℕ → List Presence → Type 0
NoneIsSurplus nodes tapes = (i : ℕ) → nodes ≤ i → ¬ IsTapeThere tapes i

-- no tape has a byte
abbrev pub AllAreEmpty : List Presence → Type 0
AllAreEmpty tapes = (i : ℕ) → ¬ HasByte tapes i

-- The first of the nodes' tapes that isn't there.
pub record IsFirstMissing (nodes : ℕ) (tapes : List Presence) (i : ℕ) : Type 0 where
  pub within : i < nodes
  pub missing : ¬ IsTapeThere tapes i
  pub first : AllAreThere i tapes

-- The first tape of another node.
pub record IsFirstSurplus (nodes : ℕ) (tapes : List Presence) (i : ℕ) : Type 0 where
  pub beyond : nodes ≤ i
  pub surplus : IsTapeThere tapes i
  pub first : (k : ℕ) → nodes ≤ k → k < i → ¬ IsTapeThere tapes k

-- ---- what a farm of n nodes may start on

-- exactly the tapes of n nodes are there
pub record HasTapes (nodes : ℕ) (tapes : List Presence) : Type 0 where
  pub all : AllAreThere nodes tapes
  pub none : NoneIsSurplus nodes tapes

-- By its file, the folder is that of a farm of n nodes, and their tapes are there; without one it
-- is new, where no tape has a byte and none is another node's, or taken over, where exactly the
-- nodes' tapes are there and one has a byte.
abbrev pub IsStart : ℕ → FoundFile → List Presence → Start → Type 0
IsStart nodes (finds.File file) tapes (starts.Own own) = (own ≡ file) × (file.nodes ≡ nodes) × HasTapes nodes tapes
IsStart nodes (finds.File file) tapes starts.New = ⊥
IsStart nodes (finds.File file) tapes starts.TakenOver = ⊥
IsStart nodes finds.Nothing tapes starts.New = AllAreEmpty tapes × NoneIsSurplus nodes tapes
IsStart nodes finds.Nothing tapes starts.TakenOver = HasTapes nodes tapes × ((i : ℕ) × HasByte tapes i)
IsStart nodes finds.Nothing tapes (starts.Own own) = ⊥
IsStart nodes (finds.Bad fault) tapes start = ⊥

-- ---- why it doesn't start

-- its file is that of a farm of n nodes, if there is one
abbrev pub IsOwnOrNone : ℕ → FoundFile → Type 0
IsOwnOrNone nodes finds.Nothing = Unit {0}
IsOwnOrNone nodes (finds.File file) = file.nodes ≡ nodes
IsOwnOrNone nodes (finds.Bad fault) = ⊥

-- its file says that it has tapes; or there is none, and a tape has a byte
abbrev pub HasBegun : FoundFile → List Presence → Type 0
HasBegun finds.Nothing tapes = (i : ℕ) × HasByte tapes i
HasBegun (finds.File file) tapes = Unit {0}
HasBegun (finds.Bad fault) tapes = ⊥

-- The cause: the file is bad; it is that of another number of nodes; if neither, a tape of another
-- node is there; if none is, a tape is missing of a folder that has begun.
abbrev pub IsAdmissionFault : ℕ → FoundFile → List Presence → StartRejection → Type 0
IsAdmissionFault nodes found tapes (causes.BadFile fault) = found ≡ finds.Bad fault
IsAdmissionFault nodes found tapes (causes.OtherNodes other) = (file : FarmFile) × (found ≡ finds.File file) × (file.nodes ≡ other) × (other ≢ nodes)
IsAdmissionFault nodes found tapes (causes.SurplusTape i) = IsOwnOrNone nodes found × IsFirstSurplus nodes tapes i
IsAdmissionFault nodes found tapes (causes.MissingTape i) = IsOwnOrNone nodes found × NoneIsSurplus nodes tapes × HasBegun found tapes × IsFirstMissing nodes tapes i

-- no start is both
abbrev pub StartsAreNotRejected : Type 0
StartsAreNotRejected = (nodes : ℕ) (found : FoundFile) (tapes : List Presence) (start : Start) (why : StartRejection) → IsStart nodes found tapes start → ¬ IsAdmissionFault nodes found tapes why
