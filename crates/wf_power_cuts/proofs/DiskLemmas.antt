-- The disks of a folder, of which one changes.
use Rattle.std.proofs.Common.{◌≡◌, ◌⊎◌, ◌∙◌, ℕ, Bool, true, false, List, [], ◌∷◌, ap, inl, inr, refl, sym, subst, nat_eq, eqb-true}
use Rattle.std.proofs.lemmas.Bool.{eq-eqb}
use Rattle.std.proofs.lemmas.Bool.{false≢true}
use Rattle.std.specs.Prelude.{if◌then◌else◌}
use Rattle.wf_disk.specs.MemoryDisk.{DiskValue}
use Rattle.wf_power_cuts.specs.Cut.{is_file}
use Rattle.wf_disk.specs.Folder.{MayLeave}
use Rattle.wf_disk.specs.MemoryMoments.{memory_now}
use Rattle.wf_power_cuts.specs.Disks.{AreOnlyRead, ChangesDisk, DiskSet, LeavesOnDisk, IsOldOr, disk_of, has_disk, no_files, with_disk}
use Rattle.wf_store.specs.declared.file_name.FileName.{FileName}
use Rattle.wf_store.specs.declared.file_name.FileName.TheVariants.{Farm, Heard, Joins, NodeTape, Replaced, ReplicaTape}

-- a disk that no call was on
pub untouched : (disk : DiskValue) → LeavesOnDisk (MayLeave disk.folder) disk disk
untouched disk = record { after = λ image left. left; inside = λ image left. (memory_now disk).nothing_else image left }

-- files that are one are equal
pub one_file : (a b : FileName) → is_file a b ≡ true → a ≡ b
one_file Farm Farm is = refl
one_file Farm Heard is = absurd (false≢true is)
one_file Farm Joins is = absurd (false≢true is)
one_file Farm Replaced is = absurd (false≢true is)
one_file Farm (NodeTape b) is = absurd (false≢true is)
one_file Farm ReplicaTape is = absurd (false≢true is)
one_file Heard Farm is = absurd (false≢true is)
one_file Heard Heard is = refl
one_file Heard Joins is = absurd (false≢true is)
one_file Heard Replaced is = absurd (false≢true is)
one_file Heard (NodeTape b) is = absurd (false≢true is)
one_file Heard ReplicaTape is = absurd (false≢true is)
one_file Joins Farm is = absurd (false≢true is)
one_file Joins Heard is = absurd (false≢true is)
one_file Joins Joins is = refl
one_file Joins Replaced is = absurd (false≢true is)
one_file Joins (NodeTape b) is = absurd (false≢true is)
one_file Joins ReplicaTape is = absurd (false≢true is)
one_file Replaced Farm is = absurd (false≢true is)
one_file Replaced Heard is = absurd (false≢true is)
one_file Replaced Joins is = absurd (false≢true is)
one_file Replaced Replaced is = refl
one_file Replaced (NodeTape b) is = absurd (false≢true is)
one_file Replaced ReplicaTape is = absurd (false≢true is)
one_file (NodeTape a) Farm is = absurd (false≢true is)
one_file (NodeTape a) Heard is = absurd (false≢true is)
one_file (NodeTape a) Joins is = absurd (false≢true is)
one_file (NodeTape a) Replaced is = absurd (false≢true is)
one_file (NodeTape a) (NodeTape b) is = ap NodeTape (eqb-true a b is)
one_file (NodeTape a) ReplicaTape is = absurd (false≢true is)
one_file ReplicaTape Farm is = absurd (false≢true is)
one_file ReplicaTape Heard is = absurd (false≢true is)
one_file ReplicaTape Joins is = absurd (false≢true is)
one_file ReplicaTape Replaced is = absurd (false≢true is)
one_file ReplicaTape (NodeTape b) is = absurd (false≢true is)
one_file ReplicaTape ReplicaTape is = refl

tape_chosen : (disk tape : DiskValue) (is : Bool) → (if is then disk else no_files) ≡ (if is then disk else if is then tape else no_files)
tape_chosen disk tape true = refl
tape_chosen disk tape false = refl

tape_with : (disks : DiskSet) (a b : ℕ) (disk : DiskValue) → nat_eq disks.node a ≡ true
    → disk_of (with_disk disks (NodeTape a) disk) (NodeTape b) ≡ (if is_file (NodeTape a) (NodeTape b) then disk else disk_of disks (NodeTape b))
tape_with disks a b disk has =
    ap (λ (set : DiskSet). disk_of set (NodeTape b)) (ap (λ (t : Bool). if t then record disks { node_tape = disk } else disks) has)
    ∙ subst (λ (n : ℕ). (if nat_eq disks.node b then disk else no_files) ≡ (if nat_eq n b then disk else if nat_eq disks.node b then disks.node_tape else no_files))
    (eqb-true disks.node a has) (tape_chosen disk disks.node_tape (nat_eq disks.node b))

-- a set with another disk for a file has it there, and its own elsewhere
pub disk_with : (disks : DiskSet) (file other : FileName) (disk : DiskValue) → has_disk disks file ≡ true → disk_of (with_disk disks file disk) other ≡ (if is_file file other then disk else disk_of disks other)
disk_with disks Farm Farm disk has = refl
disk_with disks Farm Heard disk has = refl
disk_with disks Farm Joins disk has = refl
disk_with disks Farm Replaced disk has = refl
disk_with disks Farm (NodeTape b) disk has = refl
disk_with disks Farm ReplicaTape disk has = refl
disk_with disks Heard Farm disk has = refl
disk_with disks Heard Heard disk has = refl
disk_with disks Heard Joins disk has = refl
disk_with disks Heard Replaced disk has = refl
disk_with disks Heard (NodeTape b) disk has = refl
disk_with disks Heard ReplicaTape disk has = refl
disk_with disks Joins Farm disk has = refl
disk_with disks Joins Heard disk has = refl
disk_with disks Joins Joins disk has = refl
disk_with disks Joins Replaced disk has = refl
disk_with disks Joins (NodeTape b) disk has = refl
disk_with disks Joins ReplicaTape disk has = refl
disk_with disks Replaced Farm disk has = refl
disk_with disks Replaced Heard disk has = refl
disk_with disks Replaced Joins disk has = refl
disk_with disks Replaced Replaced disk has = refl
disk_with disks Replaced (NodeTape b) disk has = refl
disk_with disks Replaced ReplicaTape disk has = refl
disk_with disks (NodeTape a) Farm disk has = ap (λ (set : DiskSet). disk_of set Farm) (ap (λ (t : Bool). if t then record disks { node_tape = disk } else disks) has)
disk_with disks (NodeTape a) Heard disk has = ap (λ (set : DiskSet). disk_of set Heard) (ap (λ (t : Bool). if t then record disks { node_tape = disk } else disks) has)
disk_with disks (NodeTape a) Joins disk has = ap (λ (set : DiskSet). disk_of set Joins) (ap (λ (t : Bool). if t then record disks { node_tape = disk } else disks) has)
disk_with disks (NodeTape a) Replaced disk has = ap (λ (set : DiskSet). disk_of set Replaced) (ap (λ (t : Bool). if t then record disks { node_tape = disk } else disks) has)
disk_with disks (NodeTape a) (NodeTape b) disk has = tape_with disks a b disk has
disk_with disks (NodeTape a) ReplicaTape disk has = ap (λ (set : DiskSet). disk_of set ReplicaTape) (ap (λ (t : Bool). if t then record disks { node_tape = disk } else disks) has)
disk_with disks ReplicaTape Farm disk has = refl
disk_with disks ReplicaTape Heard disk has = refl
disk_with disks ReplicaTape Joins disk has = refl
disk_with disks ReplicaTape Replaced disk has = refl
disk_with disks ReplicaTape (NodeTape b) disk has = refl
disk_with disks ReplicaTape ReplicaTape disk has = refl

-- a file is one with itself
pub same_file : (file : FileName) → is_file file file ≡ true
same_file Farm = refl
same_file Heard = refl
same_file Joins = refl
same_file Replaced = refl
same_file (NodeTape a) = eq-eqb a a refl
same_file ReplicaTape = refl

-- there is a disk for it also after it was changed
pub has_with : (disks : DiskSet) (file : FileName) (disk : DiskValue) → has_disk disks file ≡ true → has_disk (with_disk disks file disk) file ≡ true
has_with disks Farm disk has = refl
has_with disks Heard disk has = refl
has_with disks Joins disk has = refl
has_with disks Replaced disk has = refl
has_with disks (NodeTape a) disk has = ap (λ (set : DiskSet). has_disk set (NodeTape a)) (ap (λ (t : Bool). if t then record disks { node_tape = disk } else disks) has) ∙ has
has_with disks ReplicaTape disk has = refl

chosen_twice : (first second other : DiskValue) (is : Bool) → (if is then second else if is then first else other) ≡ (if is then second else other)
chosen_twice first second other true = refl
chosen_twice first second other false = refl

-- changed twice it is as the second time
pub disk_with_both : (disks : DiskSet) (file other : FileName) (first second : DiskValue) → has_disk disks file ≡ true
    → disk_of (with_disk (with_disk disks file first) file second) other ≡ (if is_file file other then second else disk_of disks other)
disk_with_both disks file other first second has =
    disk_with (with_disk disks file first) file other second (has_with disks file first has)
    ∙ ap (λ (disk : DiskValue). if is_file file other then second else disk) (disk_with disks file other first has)
    ∙ chosen_twice first second (disk_of disks other) (is_file file other)

if_true : (is : Bool) (a b : DiskValue) → is ≡ true → (if is then a else b) ≡ a
if_true true a b same = refl
if_true false a b same = absurd (false≢true same)

if_false : (is : Bool) (a b : DiskValue) → is ≡ false → (if is then a else b) ≡ b
if_false true a b same = absurd (false≢true (sym same))
if_false false a b same = refl

module _ (old mid new : DiskSet) (file : FileName) (taken : DiskValue) (has : has_disk old file ≡ true) (out : mid ≡ with_disk old file no_files) (back : new ≡ with_disk mid file taken) where
  is_disk : (other : FileName) → disk_of new other ≡ (if is_file file other then taken else disk_of old other)
  is_disk other =
      ap (λ (set : DiskSet). disk_of set other) (back ∙ ap (λ (set : DiskSet). with_disk set file taken) out)
      ∙ disk_with_both old file other no_files taken has

  -- the disk that was taken out is there again
  pub is_back : disk_of new file ≡ taken
  is_back = is_disk file ∙ if_true (is_file file file) taken (disk_of old file) (same_file file)

  -- so what it left is left, and the others are as they were
  pub changed_by : (P : List ℕ → Type 0) (before : DiskValue) → before ≡ disk_of old file → LeavesOnDisk P before taken → ChangesDisk file P old new
  changed_by P before was left = record {
    own = subst (λ (disk : DiskValue). LeavesOnDisk P (disk_of old file) disk) (sym is_back) (subst (λ (disk : DiskValue). LeavesOnDisk P disk taken) was left);
    others = λ other not. is_disk other ∙ if_false (is_file file other) taken (disk_of old other) not;
  }

-- one that was taken out and isn't put back leaves the others
pub taken_out : (old new : DiskSet) (file : FileName) → has_disk old file ≡ true → new ≡ with_disk old file no_files
    → (other : FileName) → is_file file other ≡ false → disk_of new other ≡ disk_of old other
taken_out old new file has out other not =
    ap (λ (set : DiskSet). disk_of set other) out ∙ disk_with old file other no_files has ∙ if_false (is_file file other) no_files (disk_of old other) not

-- no disk was changed
pub unchanged : (disks new : DiskSet) (file : FileName) → new ≡ disks → ChangesDisk file (MayLeave (disk_of disks file).folder) disks new
unchanged disks new file same = subst (λ (set : DiskSet). ChangesDisk file (MayLeave (disk_of disks file).folder) disks set) (sym same)
    (record { own = untouched (disk_of disks file); others = λ other not. refl })

pub unchanged_or : (disks new : DiskSet) (file : FileName) (bytes : List ℕ) → new ≡ disks → ChangesDisk file (IsOldOr disks file bytes) disks new
unchanged_or disks new file bytes same = subst (λ (set : DiskSet). ChangesDisk file (IsOldOr disks file bytes) disks set) (sym same)
    (record {
      own = record {
        after = λ image left. inl left;
        inside = λ image left. inl ((untouched (disk_of disks file)).inside image left);
      };
      others = λ other not. refl;
    })

-- ---- each disk leaves what it could before

pub none_read : (old new : DiskSet) → new ≡ old → AreOnlyRead old new
none_read old new same = subst (λ (set : DiskSet). AreOnlyRead old set) (sym same) (λ file. untouched (disk_of old file))

read_at : (old new : DiskSet) (file other : FileName) → ChangesDisk file (MayLeave (disk_of old file).folder) old new → (is : Bool) → is_file file other ≡ is
    → LeavesOnDisk (MayLeave (disk_of old other).folder) (disk_of old other) (disk_of new other)
read_at old new file other change true same =
    subst (λ (f : FileName). LeavesOnDisk (MayLeave (disk_of old f).folder) (disk_of old f) (disk_of new f)) (one_file file other same) change.own
read_at old new file other change false same =
    subst (λ (disk : DiskValue). LeavesOnDisk (MayLeave (disk_of old other).folder) (disk_of old other) disk) (sym (change.others other same)) (untouched (disk_of old other))

pub one_read : (old new : DiskSet) (file : FileName) → ChangesDisk file (MayLeave (disk_of old file).folder) old new → AreOnlyRead old new
one_read old new file change = λ other. read_at old new file other change (is_file file other) refl

-- one that was taken out, read, and put back
pub read_back : (old mid new : DiskSet) (file : FileName) (before taken : DiskValue) → has_disk old file ≡ true → mid ≡ with_disk old file no_files → new ≡ with_disk mid file taken → before ≡ disk_of old file
    → LeavesOnDisk (MayLeave before.folder) before taken → AreOnlyRead old new
read_back old mid new file before taken has out back was left =
    one_read old new file (changed_by old mid new file taken has out back (MayLeave (disk_of old file).folder) before was (subst (λ (d : DiskValue). LeavesOnDisk (MayLeave d.folder) before taken) was left))
