-- The exit status of an error, the error of a list of addresses, and the errors that the system
-- causes.
use Rattle.std.specs.Prelude.{ℕ, ⊤, List}
use Rattle.wf_address.specs.declared.list.ListFault.{ListFault}
use Rattle.wf_address.specs.declared.list.ListFault.TheVariants as lists
use Rattle.wf_node_folder.specs.Folder.{IsHeardBad}
use Rattle.wf_node_folder.specs.declared.fault.CommandFault.{CommandFault}
use Rattle.wf_node_folder.specs.declared.fault.CommandFault.TheVariants as faults
use Rattle.wf_store.specs.Call.{Call}

-- 2 for a bad command line
abbrev pub fault_status : CommandFault → ℕ
fault_status (faults.BadPeer index) = 2
fault_status (faults.PeerCount count) = 2
fault_status (faults.BadAddress option) = 2
fault_status (faults.Id id nodes) = 2
fault_status faults.Name = 2
fault_status faults.ReplaceFrom = 2
fault_status fault = 1

-- the error of a list of peers
abbrev pub fault_of : ListFault → CommandFault
fault_of (lists.Bad index) = faults.BadPeer index
fault_of (lists.Count count) = faults.PeerCount count
fault_of lists.Memory = faults.Memory

-- The error is one that files, sockets or memory caused before a node began: none of the command
-- line, or of what its files say.
abbrev pub IsFromSystem : CommandFault → Type 0
IsFromSystem (faults.BadPeer index) = ⊥
IsFromSystem (faults.PeerCount count) = ⊥
IsFromSystem (faults.BadAddress option) = ⊥
IsFromSystem (faults.Id id nodes) = ⊥
IsFromSystem faults.Name = ⊥
IsFromSystem faults.ReplaceFrom = ⊥
IsFromSystem (faults.NotEmpty why) = ⊥
IsFromSystem (faults.Rejected why) = ⊥
IsFromSystem (faults.PeerProgress why) = ⊥
IsFromSystem (faults.Replacement why) = ⊥
IsFromSystem (faults.FromUnread kind) = ⊥
IsFromSystem (faults.FromBad offset) = ⊥
IsFromSystem (faults.FromRejected why) = ⊥
IsFromSystem (faults.BesideUnread kind) = ⊥
IsFromSystem (faults.JoinsUnread kind) = ⊥
IsFromSystem (faults.TapeBad offset) = ⊥
IsFromSystem fault = ⊤

-- why nothing is known of what was heard: the file `heard` is bad, or the system failed
abbrev pub IsWhyUnheard : List Call → CommandFault → Type 0
IsWhyUnheard new (faults.PeerProgress why) = IsHeardBad new
IsWhyUnheard new fault = IsFromSystem fault
