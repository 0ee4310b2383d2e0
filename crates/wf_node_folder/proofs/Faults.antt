-- From the error of a part to that of the command.
use Rattle.std.proofs.Common.{◌≡◌, ℕ, List, refl, subst, sym}
use Rattle.std.specs.Prelude.{Option, Some, None, IsSome, MatchOption, option_map}
use Rattle.std.specs.Borrow.{Bor}
use Rattle.std.specs.Path.{path_file_name}
use Rattle.wf_address.specs.Address.{IsListFault, IsNoAddress, words_of}
use Rattle.wf_address.specs.declared.address_option.AddressOption.TheVariants as options
use Rattle.wf_address.specs.declared.list.ListFault.{ListFault}
use Rattle.wf_address.specs.declared.list.ListFault.TheVariants as lists
use Rattle.wf_line.specs.declared.node_line.InitLine.{InitLine}
use Rattle.wf_line.specs.declared.node_line.NodeLine.{NodeLine}
use Rattle.wf_node_folder.specs.Fault.{fault_of}
use Rattle.wf_node_folder.specs.From.{IsFromFault, IsNotFrom}
use Rattle.wf_node_folder.specs.Made.{IsInitCause}
use Rattle.wf_node_folder.specs.Start.{IsWordsFault}
use Rattle.wf_node_folder.specs.declared.fault.CommandFault.{CommandFault}
use Rattle.wf_node_folder.specs.declared.fault.CommandFault.TheVariants as faults

-- what a list of addresses causes
pub list_fault : (line : NodeLine) (why : ListFault) → IsListFault (words_of line.peers.now) why → IsWordsFault line (fault_of why)
list_fault line (lists.Bad index) is = is
list_fault line (lists.Count count) is = is
list_fault line lists.Memory is = tt

-- what the tape to begin with causes
is_some : {A : Type 0} (from : Option A) (x : A) → from ≡ Some x → IsSome from
is_some None x is = absurd cc
is_some (Some y) x is = refl

pub from_fault : (line : InitLine) (from : Bor (List ℕ)) (fault : CommandFault) → line.from ≡ Some from → IsFromFault from.now line.id line.nodes fault → IsInitCause line fault
from_fault line from (faults.FromUnread kind) some is = is_some line.from from some
from_fault line from (faults.FromBad offset) some is = (is_some line.from from some, is)
from_fault line from (faults.BesideUnread kind) some is = is_some line.from from some
from_fault line from (faults.JoinsUnread kind) some is = is_some line.from from some
from_fault line from faults.Memory some is = tt
from_fault line from (faults.FromRejected why) some is =
    subst (λ (f : Option (Bor (List ℕ))). MatchOption f ⊥ (λ from'. IsNotFrom (path_file_name from'.now) line.id line.nodes why)) (sym some) is
from_fault line from fault some is = absurd is

-- a bad value of an option
pub bad_http : (line : NodeLine) → IsNoAddress line.http.now → IsWordsFault line (faults.BadAddress options.Http)
bad_http line bad = record { word = line.http.now; is = refl; bad = bad }

pub bad_listen : (line : NodeLine) → (word : List ℕ) × (option_map (λ w. w.now) line.listen ≡ Some word) × IsNoAddress word → IsWordsFault line (faults.BadAddress options.Listen)
bad_listen line is = record { word = is.0; is = is.1; bad = is.2 }

pub bad_admin : (line : NodeLine) → (word : List ℕ) × (option_map (λ w. w.now) line.admin ≡ Some word) × IsNoAddress word → IsWordsFault line (faults.BadAddress options.Admin)
bad_admin line is = record { word = is.0; is = is.1; bad = is.2 }

pub bad_readers : (line : NodeLine) → (word : List ℕ) × (option_map (λ w. w.now) line.readers ≡ Some word) × IsNoAddress word → IsWordsFault line (faults.BadAddress options.Readers)
bad_readers line is = record { word = is.0; is = is.1; bad = is.2 }
