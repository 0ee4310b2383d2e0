-- The exit status of an error, and what causes it.
use Rattle.std.specs.Prelude.{◌≡◌, ◌<◌, ℕ, ⊤, List, Option, Some, None, length, option_map}
use Rattle.std.specs.declared.net.socket_addr.SocketAddr.{SocketAddr}
use Rattle.wf_address.specs.Address.{AreAddresses, IsFirstBad, IsNoAddress, IsSpelledBy, words_of}
use Rattle.wf_address.specs.declared.address_option.AddressOption.{AddressOption}
use Rattle.wf_address.specs.declared.address_option.AddressOption.TheVariants as options
use Rattle.wf_address.specs.declared.list.ListFault.{ListFault}
use Rattle.wf_address.specs.declared.list.ListFault.TheVariants as lists
use Rattle.wf_folder.specs.Name.{IsNameText, pad}
use Rattle.wf_line.specs.declared.replica_line.ReplicaLine.{ReplicaLine}
use Rattle.wf_ports.specs.Address.{address_of}
use Rattle.wf_replica_command.specs.declared.fault.ReplicaFault.{ReplicaFault}
use Rattle.wf_replica_command.specs.declared.fault.ReplicaFault.TheVariants as faults
use Rattle.wf_replica_command.specs.declared.plan.ReplicaPlan.{ReplicaPlan}

-- 2 for a bad command line
abbrev pub fault_status : ReplicaFault → ℕ
fault_status (faults.BadPeer index) = 2
fault_status (faults.PeerCount count) = 2
fault_status (faults.BadAddress option) = 2
fault_status faults.Name = 2
fault_status fault = 1

-- the error of a list of sources
abbrev pub fault_of : ListFault → ReplicaFault
fault_of (lists.Bad index) = faults.BadPeer index
fault_of (lists.Count count) = faults.PeerCount count
fault_of lists.Memory = faults.Memory

-- the value of an option, if it is given
abbrev pub value_of : ReplicaLine → AddressOption → Option (List ℕ)
value_of line options.Http = Some line.http.now
value_of line options.Listen = None
value_of line options.Readers = option_map (λ word. word.now) line.readers
value_of line options.Admin = option_map (λ word. word.now) line.admin

-- it is given, and no address
pub record IsBadReplicaOption (line : ReplicaLine) (option : AddressOption) : Type 0 where
  pub word : List ℕ
  pub is : value_of line option ≡ Some word
  pub bad : IsNoAddress word

-- ---- what a command line asks for

-- Each word of the line spells the plan's address, and the farm's name is the line's.
pub record IsReplicaPlanOf (line : ReplicaLine) (plan : ReplicaPlan) : Type 0 where
  pub farm : plan.farm ≡ pad line.farm.now
  pub sources : AreAddresses (words_of line.peers.now) plan.sources.items
  pub http : IsSpelledBy (value_of line options.Http) (Some plan.ports.http)
  pub admin : IsSpelledBy (value_of line options.Admin) plan.ports.admin
  pub readers : IsSpelledBy (value_of line options.Readers) plan.ports.readers

-- ---- why a replica didn't begin

-- the folder isn't this replica's, or a file of it or memory fails
abbrev pub IsOfFolder : ReplicaFault → Type 0
IsOfFolder (faults.Folder why) = ⊤
IsOfFolder faults.NotEmpty = ⊤
IsOfFolder faults.Version = ⊤
IsOfFolder faults.Kind = ⊤
IsOfFolder faults.OtherFarm = ⊤
IsOfFolder faults.Memory = ⊤
IsOfFolder fault = ⊥

-- The error is one that sockets or memory caused before the replica began. An address that is taken
-- is one of its own.
abbrev pub IsReplicaSystemFault : ReplicaPlan → ReplicaFault → Type 0
IsReplicaSystemFault plan faults.Poll = ⊤
IsReplicaSystemFault plan (faults.Taken option address) = address_of plan.ports option ≡ Some address
IsReplicaSystemFault plan faults.Memory = ⊤
IsReplicaSystemFault plan fault = ⊥

-- a word of the command line is bad, or an allocation failed
abbrev pub IsReplicaWordsFault : ReplicaLine → ReplicaFault → Type 0
IsReplicaWordsFault line (faults.BadPeer index) = IsFirstBad (words_of line.peers.now) index
IsReplicaWordsFault line (faults.PeerCount count) = (count ≡ length (words_of line.peers.now)) × (64 < count)
IsReplicaWordsFault line (faults.BadAddress option) = IsBadReplicaOption line option
IsReplicaWordsFault line faults.Name = ¬ (IsNameText line.farm.now)
IsReplicaWordsFault line faults.Memory = ⊤
IsReplicaWordsFault line fault = ⊥

-- a word of its command line, or the system; an address that is taken is the one that the option's
-- word spells
abbrev pub IsReplicaFault : ReplicaLine → ReplicaFault → Type 0
IsReplicaFault line (faults.BadPeer index) = IsFirstBad (words_of line.peers.now) index
IsReplicaFault line (faults.PeerCount count) = (count ≡ length (words_of line.peers.now)) × (64 < count)
IsReplicaFault line (faults.BadAddress option) = IsBadReplicaOption line option
IsReplicaFault line faults.Name = ¬ (IsNameText line.farm.now)
IsReplicaFault line faults.Poll = ⊤
IsReplicaFault line (faults.Taken option address) = IsSpelledBy (value_of line option) (Some address)
IsReplicaFault line fault = IsOfFolder fault
