-- How far a stored state goes, and whether it holds what is known of its node.
use Rattle.std.specs.Prelude.{◌≡◌, ℕ, false, List, length, nat_le, if◌then◌else◌, Option, Some, None}
use Rattle.wf_def.specs.Definition.{Definition}
use Rattle.wf_digest.specs.Digest.{digest_at}
use Rattle.wf_folder.specs.NodeAdmission.{IsTapeAdmitted, IsTapeRejection}
use Rattle.wf_folder.specs.NodeFile.{raised_known}
use Rattle.wf_folder.specs.Reach.{IsReachNoLess}
use Rattle.wf_folder.specs.declared.node_admission.NodeRejection.{NodeRejection}
use Rattle.wf_folder.specs.declared.node_file.NodeFile.{NodeFile}
use Rattle.wf_folder.specs.declared.reach.Known.{Known}
use Rattle.wf_folder.specs.declared.reach.Reach.{Reach}
use Rattle.wf_journal.specs.Journal.{ReadsSame}
use Rattle.wf_journal.specs.declared.open_error.OpenFault.{OpenFault}
use Rattle.wf_journal.specs.declared.open_error.OpenFault.TheVariants.{BadRecord}
use Rattle.wf_voter.specs.Reach.{IsHighestVote}
use Rattle.wf_model.specs.DurableState.{DurableState}
use Rattle.wf_model.specs.VolatileState.{at_start}
use Rattle.wf_node.specs.Images.{StandsFor}
use Rattle.wf_node.specs.Node.{Node, stored_of, volatile_of}
use Rattle.wf_node_folder.specs.Damage.{IsDamagedAt}
use Rattle.wf_node_folder.specs.Fault.{IsFromSystem}
use Rattle.wf_node_folder.specs.declared.fault.CommandFault.{CommandFault}
use Rattle.wf_node_folder.specs.declared.fault.CommandFault.TheVariants as faults

-- What is stored goes so far: its round, its promise, its highest vote, and its last published
-- sequence.
pub record HasReached (stored : DurableState Definition) (reach : Reach) : Type 0 where
  pub tried : reach.round ≡ stored.tried
  pub promised : reach.promise ≡ stored.promise
  pub voted : IsHighestVote stored reach.vote
  pub up_to : reach.published ≡ length stored.history

-- the digest of a history at a sequence; there is none above its end
abbrev pub digest_up_to : List Definition → ℕ → Option (List ℕ)
digest_up_to history seq = if nat_le seq (length history) then Some (digest_at history seq) else None

-- What is stored holds all that is known of its node: it goes as far, with the same history up to
-- there, and has no lower round, promise and vote.
pub record HoldsAll (known : Known) (stored : DurableState Definition) : Type 0 where
  pub reach : Reach
  pub is_reach : HasReached stored reach
  pub admitted : IsTapeAdmitted known reach (digest_up_to stored.history known.reach.published)

-- It doesn't, for this cause.
pub record HoldsLess (known : Known) (stored : DurableState Definition) (why : NodeRejection) : Type 0 where
  pub reach : Reach
  pub is_reach : HasReached stored reach
  pub rejected : IsTapeRejection known reach (digest_up_to stored.history known.reach.published) why

-- why a stored state isn't admitted: it holds less, or an allocation failed
abbrev pub IsWhyNotHeld : Known → DurableState Definition → CommandFault → Type 0
IsWhyNotHeld known stored (faults.Rejected why) = HoldsLess known stored why
IsWhyNotHeld known stored fault = IsFromSystem fault

-- The bytes of a tape stand for a state that holds all that the file knows of its node.
pub record HasHeld (file : NodeFile) (content : List ℕ) : Type 0 where
  pub stored : DurableState Definition
  pub stands : StandsFor stored content
  pub holds : HoldsAll file.known stored

-- The bytes of a tape stand for a state that holds less than the file knows of its node.
pub record HasGoneBack (file : NodeFile) (content : List ℕ) (why : NodeRejection) : Type 0 where
  pub stored : DurableState Definition
  pub stands : StandsFor stored content
  pub less : HoldsLess file.known stored why

-- the error of a tape in memory on which no node opens
abbrev pub copy_fault_of : OpenFault → CommandFault
copy_fault_of (BadRecord offset) = faults.TapeBad offset
copy_fault_of fault = faults.Memory

-- why a node isn't admitted by the bytes of its tape
abbrev pub IsWhyNotHeldBy : NodeFile → List ℕ → CommandFault → Type 0
IsWhyNotHeldBy file content (faults.Rejected why) = HasGoneBack file content why
IsWhyNotHeldBy file content (faults.TapeBad offset) = IsDamagedAt content offset
IsWhyNotHeldBy file content fault = IsFromSystem fault

-- The node of this file, of as many nodes as the file says, was just opened: it runs, with no
-- proposal and no leadership.
pub record IsOpenedFor {T : Type 0} (file : NodeFile) (node : Node T) : Type 0 where
  pub number : node.id ≡ file.node
  pub among : node.n ≡ file.nodes
  pub runs : node.halted ≡ false
  pub idle : volatile_of node ≡ at_start

-- ---- a tape that is written anew

-- each reads as the records of the other
pub record ReadAlike (old new : List ℕ) : Type 0 where
  pub same : ReadsSame old new
  pub back : ReadsSame new old

-- ---- what a start writes

-- This is how far the stored state goes, with the digest of its whole history. The state holds what
-- was known before, also once that is raised to this.
pub record IsKnownOf (before : Known) (stored : DurableState Definition) (known : Known) : Type 0 where
  pub is_reach : HasReached stored known.reach
  pub is_digest : known.digest ≡ digest_at stored.history (length stored.history)
  pub held : HoldsAll (raised_known before known.reach known.digest) stored

-- The second file is the first one, in which what is known is raised to all that is stored, and so
-- says no less.
pub record IsRaisedTo (stored : DurableState Definition) (file written : NodeFile) : Type 0 where
  pub known : Known
  pub is_known : IsKnownOf file.known stored known
  pub value : written ≡ record file { known = raised_known file.known known.reach known.digest }
  pub no_less : IsReachNoLess file.known.reach written.known.reach

-- The node of this file was opened, holds all that is known of it, and goes so far.
pub record IsExamined {T : Type 0} (file : NodeFile) (node : Node T) (known : Known) : Type 0 where
  pub opened : IsOpenedFor file node
  pub holds : HoldsAll file.known (stored_of node)
  pub is_known : IsKnownOf file.known (stored_of node) known
