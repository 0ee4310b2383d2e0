-- Calls of a disk in memory that fail.
use Rattle.std.proofs.Common.{◌≡◌, ℕ, List, ◌++◌, take, drop, Option, Some, None, sym, ap, subst, ◌∙◌, append_assoc, inr}
use Rattle.std.proofs.lemmas.List.{take-append-drop}
use Rattle.wf_disk.specs.declared.fault.DiskFault.{DiskFault}
use Rattle.wf_disk.specs.declared.fault.DiskFault.TheVariants.{Device, Memory}
use Rattle.wf_disk.specs.declared.folder.Name.{Name}
use Rattle.wf_disk.specs.Moments.{IsPrefixOf}
use Rattle.wf_disk.specs.Folder.{Folder}
use Rattle.wf_disk.specs.Call.{Open, Append, Rename, IsLeft}
use Rattle.wf_disk.specs.MemoryDisk.{fault_after}

-- The file was opened, or it couldn't be; and then the device failed.
opened : (old new : Folder) (fault : Option DiskFault) → IsLeft Open old fault new → IsLeft Open old (Some (fault_after fault)) new
opened old new None left = inr left.1
opened old new (Some Device) left = left
opened old new (Some Memory) left = left

pub open_short : (old new : Folder) (fault after : Option DiskFault) → IsLeft Open old fault new → after ≡ Some (fault_after fault) → IsLeft Open old after new
open_short old new fault after left is = subst (λ (f : Option DiskFault). IsLeft Open old f new) (sym is) (opened old new fault left)

-- So it is where a file is renamed.
renamed : (old new : Folder) (fault : Option DiskFault) → IsLeft Rename old fault new → IsLeft Rename old (Some (fault_after fault)) new
renamed old new None left = inr left.1
renamed old new (Some Device) left = left
renamed old new (Some Memory) left = left

pub rename_short : (old new : Folder) (fault after : Option DiskFault) → IsLeft Rename old fault new → after ≡ Some (fault_after fault) → IsLeft Rename old after new
rename_short old new fault after left is = subst (λ (f : Option DiskFault). IsLeft Rename old f new) (sym is) (renamed old new fault left)

-- a prefix of a prefix is one
begins_too : (a b c : List ℕ) → IsPrefixOf a b → IsPrefixOf b c → IsPrefixOf a c
begins_too a b c first second = (first.0 ++ second.0, second.1 ∙ ap (λ (t : List ℕ). t ++ second.0) first.1 ∙ append_assoc a first.0 second.0)

-- Of an append the first bytes were appended, or fewer.
appended : (name : Name) (front bytes : List ℕ) (old new : Folder) (fault : Option DiskFault) → IsPrefixOf front bytes → IsLeft (Append name front) old fault new → IsLeft (Append name bytes) old (Some (fault_after fault)) new
appended name front bytes old new None begins left = (front, begins, left.1)
appended name front bytes old new (Some Device) begins left = (left.0, begins_too left.0 front bytes left.1 begins, left.2)
appended name front bytes old new (Some Memory) begins left = left

pub append_short : (name : Name) (kept : ℕ) (front bytes : List ℕ) (old new : Folder) (fault after : Option DiskFault) → front ≡ take kept bytes → IsLeft (Append name front) old fault new → after ≡ Some (fault_after fault) →
    IsLeft (Append name bytes) old after new
append_short name kept front bytes old new fault after front_is left is =
    let begins : IsPrefixOf front bytes = (drop kept bytes, sym (take-append-drop kept bytes) ∙ ap (λ (t : List ℕ). t ++ drop kept bytes) (sym front_is)) in
    subst (λ (f : Option DiskFault). IsLeft (Append name bytes) old f new) (sym is) (appended name front bytes old new fault begins left)
