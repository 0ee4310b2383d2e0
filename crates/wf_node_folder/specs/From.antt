-- The tape that a new folder begins with: whose it is by what is beside it, and by its own records.
use Rattle.std.specs.Prelude.{◌≡◌, ◌≢◌, ℕ, ◌<◌, ◌≤◌, ◌+◌, ◌/◌, ◌%◌, ⊤, List, [], ◌∷◌, ◌++◌, codes, nat_lt, if◌then◌else◌, slice_get, Option, Some, None}
use Rattle.std.specs.Path.{path_file_name}
use Rattle.wf_ballot.specs.Ballot.{Ballot}
use Rattle.wf_def.specs.Definition.{Definition}
use Rattle.wf_folder.specs.FarmFile.{IsFarmFile, farm_text}
use Rattle.wf_folder.specs.NodeFile.{IsNodeFile, IsTextOf}
use Rattle.wf_folder.specs.declared.farm_file.FarmFile.{FarmFile}
use Rattle.wf_folder.specs.declared.node_file.NodeFile.{NodeFile}
use Rattle.wf_journal.specs.Records.{IsTapeOf}
use Rattle.wf_journal.specs.declared.open_error.OpenFault.{OpenFault}
use Rattle.wf_journal.specs.declared.open_error.OpenFault.TheVariants.{BadRecord}
use Rattle.wf_model.specs.DurableState.{Accepted, DurableState, Promised, Published, Record, Tried, fold}
use Rattle.wf_node.specs.OpenedNode.{IsUnfitAt, IsWhyBad}
use Rattle.wf_node_folder.specs.declared.fault.CommandFault.{CommandFault}
use Rattle.wf_node_folder.specs.declared.fault.CommandFault.TheVariants as faults
use Rattle.wf_node_folder.specs.declared.from_rejection.Beside.{Beside}
use Rattle.wf_node_folder.specs.declared.from_rejection.Beside.TheVariants as besides
use Rattle.wf_node_folder.specs.declared.from_rejection.FromRejection.{FromRejection}
use Rattle.wf_node_folder.specs.declared.from_rejection.FromRejection.TheVariants as causes

-- ---- what is beside it

-- the name of a node's tape
abbrev pub digits : ℕ → List ℕ
digits id = if nat_lt id 10 then (48 + id) ∷ [] else (48 + id / 10) ∷ (48 + id % 10) ∷ []

unfoldable pub tape_name : ℕ → List ℕ
tape_name id = codes "node-" ++ (digits id ++ codes ".tape")

-- the number of nodes that the file says, if there is one that can be read
abbrev pub nodes_of : Beside → Option ℕ
nodes_of besides.Nothing = None
nodes_of (besides.Serve file) = Some file.nodes
nodes_of (besides.Node file) = Some file.nodes
nodes_of besides.Joins = None
nodes_of (besides.Bad fault) = None

-- the node that uses the folder, if it is one alone
abbrev pub only_node : Beside → Option ℕ
only_node (besides.Node file) = Some file.node
only_node beside = None

-- the file can be read, or there is none, and the folder doesn't join; if it says a number of
-- nodes, it says this one; and so the node
abbrev pub IsReadable : Beside → Type 0
IsReadable (besides.Bad fault) = ⊥
IsReadable besides.Joins = ⊥
IsReadable beside = ⊤

abbrev pub IsThatIfAny : Option ℕ → ℕ → Type 0
IsThatIfAny None n = ⊤
IsThatIfAny (Some m) n = m ≡ n

-- beside a file `farm` the tape has the name of this node's; without one any name will do
abbrev pub IsNamed : Beside → Option (List ℕ) → ℕ → Type 0
IsNamed besides.Nothing name id = ⊤
IsNamed beside name id = name ≡ Some (tape_name id)

-- By what is beside it and by its name the tape can be that of this node of a farm of n.
pub record IsOfNode (beside : Beside) (name : Option (List ℕ)) (id n : ℕ) : Type 0 where
  pub readable : IsReadable beside
  pub of_farm : IsThatIfAny (nodes_of beside) n
  pub of_node : IsThatIfAny (only_node beside) id
  pub named : IsNamed beside name id

-- the bytes of a file `farm` read so
abbrev pub IsFarmFileReadAs : List ℕ → Beside → Type 0
IsFarmFileReadAs bytes besides.Nothing = ⊥
IsFarmFileReadAs bytes (besides.Serve file) = bytes ≡ farm_text file
IsFarmFileReadAs bytes (besides.Node file) = IsTextOf bytes file
IsFarmFileReadAs bytes besides.Joins = ⊥
IsFarmFileReadAs bytes (besides.Bad fault) = ((file : FarmFile) → IsFarmFile file → bytes ≢ farm_text file) × ((file : NodeFile) → IsNodeFile file → ¬ IsTextOf bytes file)

-- why it can't
abbrev pub IsWhyNotOfNode : Beside → Option (List ℕ) → (id n : ℕ) → FromRejection → Type 0
IsWhyNotOfNode beside name id n (causes.BadFile fault) = beside ≡ besides.Bad fault
IsWhyNotOfNode beside name id n causes.Joins = beside ≡ besides.Joins
IsWhyNotOfNode beside name id n (causes.OtherNodes found wanted) = (nodes_of beside ≡ Some found) × (wanted ≡ n) × (found ≢ n)
IsWhyNotOfNode beside name id n (causes.OtherNode found wanted) = (only_node beside ≡ Some found) × (wanted ≡ id) × (found ≢ id)
IsWhyNotOfNode beside name id n (causes.OtherName wanted) = (wanted ≡ id) × (¬ IsNamed beside name id)
IsWhyNotOfNode beside name id n (causes.Untried round tried) = ⊥

-- ---- its records

-- the ballot of a promise or a vote
abbrev pub ballot_of : {V : Type 0} → Record V → Option Ballot
ballot_of (Tried round) = None
ballot_of (Promised s b) = Some b
ballot_of (Accepted s b d) = Some b
ballot_of (Published s d) = None

-- if it is a ballot of this node, it is of a round that was tried
abbrev pub IsTriedIfOwn : (id tried : ℕ) → Option Ballot → Type 0
IsTriedIfOwn id tried None = ⊤
IsTriedIfOwn id tried (Some b) = b.node ≡ id → b.round ≤ tried

abbrev pub CanBeOf : {V : Type 0} → (id tried : ℕ) → Record V → Type 0
CanBeOf id tried r = IsTriedIfOwn id tried (ballot_of r)

abbrev pub AllCanBeOf : {V : Type 0} → (id tried : ℕ) → List (Record V) → Type 0
AllCanBeOf {V} id tried records = (index : ℕ) (r : Record V) → slice_get records index ≡ Some r → CanBeOf id tried r

-- a promise or a vote is for a round of this node's own that is above what was tried
abbrev pub IsUntried : {V : Type 0} → (id tried round : ℕ) → Record V → Type 0
IsUntried id tried round r = (b : Ballot) × (ballot_of r ≡ Some b) × (b.node ≡ id) × (b.round ≡ round) × (tried < round)

-- one of the records is
pub record IsUntriedIn {V : Type 0} (id tried round : ℕ) (records : List (Record V)) : Type 0 where
  pub index : ℕ
  pub untried : Record V
  pub at_index : slice_get records index ≡ Some untried
  pub is_untried : IsUntried id tried round untried

-- The records fold to a state, and can be this node's: it promised and voted for no round of its
-- own that it hadn't tried.
pub record CanBeRecordsOf (id : ℕ) (records : List (Record Definition)) : Type 0 where
  pub stored : DurableState Definition
  pub folds : fold records ≡ Some stored
  pub own : AllCanBeOf id stored.tried records

-- The records fold to a state, and one of them is for a round of the node's own that it hadn't
-- tried.
pub record HasUntried (id : ℕ) (records : List (Record Definition)) (round tried : ℕ) : Type 0 where
  pub stored : DurableState Definition
  pub folds : fold records ≡ Some stored
  pub is_tried : stored.tried ≡ tried
  pub is_in : IsUntriedIn id tried round records

-- A node opens on a tape with these bytes, and by its records it can be this one.
pub record IsTapeOfNode (id : ℕ) (bytes : List ℕ) : Type 0 where
  pub records : List (Record Definition)
  pub rest : List ℕ
  pub tape : IsTapeOf bytes records rest
  pub can_be : CanBeRecordsOf id records

-- by its records it can't be
pub record IsTapeOfOther (id : ℕ) (bytes : List ℕ) (round tried : ℕ) : Type 0 where
  pub records : List (Record Definition)
  pub rest : List ℕ
  pub tape : IsTapeOf bytes records rest
  pub cannot_be : HasUntried id records round tried

-- ---- both

-- The tape of `--from` can be this node's of a farm of n: by what is beside it, by the name that
-- its path ends with, and by its bytes.
pub record MayBeFrom (name : Option (List ℕ)) (id n : ℕ) (bytes : List ℕ) : Type 0 where
  pub beside : Beside
  pub by_place : IsOfNode beside name id n
  pub by_records : IsTapeOfNode id bytes

-- why it can't
abbrev pub IsNotFrom : Option (List ℕ) → (id n : ℕ) → FromRejection → Type 0
IsNotFrom name id n (causes.Untried round tried) = (bytes : List ℕ) × IsTapeOfOther id bytes round tried
IsNotFrom name id n why = (beside : Beside) × IsWhyNotOfNode beside name id n why

-- ---- its errors

-- it can't be read
abbrev pub CannotBeRead : CommandFault → Type 0
CannotBeRead (faults.FromUnread kind) = ⊤
CannotBeRead (faults.BesideUnread kind) = ⊤
CannotBeRead (faults.JoinsUnread kind) = ⊤
CannotBeRead faults.Memory = ⊤
CannotBeRead fault = ⊥

-- the error of a tape in memory on which no node opens
abbrev pub from_fault_of : OpenFault → CommandFault
from_fault_of (BadRecord offset) = faults.FromBad offset
from_fault_of fault = faults.Memory

-- why a tape isn't taken by its records: the one at this byte offset doesn't fit, so that no node
-- opens on it; or it can't be this one
abbrev pub IsRecordsFault : (id : ℕ) (records : List (Record Definition)) → CommandFault → Type 0
IsRecordsFault id records (faults.FromRejected (causes.Untried round tried)) = HasUntried id records round tried
IsRecordsFault id records (faults.FromBad offset) = (fold records ≡ None) × IsUnfitAt records offset
IsRecordsFault id records faults.Memory = ⊤
IsRecordsFault id records fault = ⊥

-- and so by its bytes
abbrev pub IsTapeFault : (id : ℕ) (bytes : List ℕ) → CommandFault → Type 0
IsTapeFault id bytes (faults.FromRejected (causes.Untried round tried)) = IsTapeOfOther id bytes round tried
IsTapeFault id bytes (faults.FromBad offset) = IsWhyBad (BadRecord offset) bytes
IsTapeFault id bytes faults.Memory = ⊤
IsTapeFault id bytes fault = ⊥

-- bytes were read as those of a tape, and no node opens on them: at this byte offset they are bad,
-- or have a record that doesn't fit
abbrev pub HasBadBytes : ℕ → Type 0
HasBadBytes offset = (bytes : List ℕ) × IsWhyBad (BadRecord offset) bytes

-- why the tape in this file isn't taken
abbrev pub IsFromFault : (from : List ℕ) (id n : ℕ) → CommandFault → Type 0
IsFromFault from id n (faults.FromUnread kind) = ⊤
IsFromFault from id n (faults.FromBad offset) = HasBadBytes offset
IsFromFault from id n (faults.BesideUnread kind) = ⊤
IsFromFault from id n (faults.JoinsUnread kind) = ⊤
IsFromFault from id n faults.Memory = ⊤
IsFromFault from id n (faults.FromRejected why) = IsNotFrom (path_file_name from) id n why
IsFromFault from id n fault = ⊥
