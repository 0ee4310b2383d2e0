-- What a start reads of a tape stands for what its node has stored.
use Rattle.std.proofs.Common.{◌≡◌, ◌≢◌, ℕ, List, drop, sym, subst}
use Rattle.std.specs.Prelude.{Result, Ok, Err, IfOk}
use Rattle.wf_def.specs.Definition.{Definition}
use Rattle.wf_folder.specs.declared.node_file.NodeFile.{NodeFile}
use Rattle.wf_journal.proofs.Lists.{whole_reads}
use Rattle.wf_journal.specs.Journal.{IsBadAt, IsWhereBad, ReadsSame}
use Rattle.wf_journal.specs.Records.{AreReadOneWay, AreRecords, IsTapeOf, ReadsAs}
use Rattle.wf_journal.specs.declared.open_error.OpenFault.{OpenFault}
use Rattle.wf_journal.specs.declared.open_error.OpenFault.TheVariants.{TapeFailed, BadRecord, Memory}
use Rattle.wf_model.specs.DurableState.{DurableState, Record}
use Rattle.wf_node.specs.Images.{StandsFor}
use Rattle.wf_node.specs.OpenedNode.{IsFoldOf}
use Rattle.wf_node_folder.specs.Held.{HasHeld, HoldsAll, IsWhyNotHeld, IsWhyNotHeldBy, ReadAlike, copy_fault_of}
use Rattle.wf_node_folder.specs.Damage.{IsWhyDamaged}
use Rattle.wf_node_folder.specs.declared.fault.CommandFault.{CommandFault}
use Rattle.wf_node_folder.specs.declared.fault.CommandFault.TheVariants as faults
use Rattle.wf_tape.specs.Tape.{IsUnchanged}

-- ---- opening a journal

-- a journal opened: what it holds reads as what was found
same_opened : AreReadOneWay → (content new : List ℕ) (records : List (Record Definition)) (rest : List ℕ) → IsTapeOf content records rest → AreRecords new records → ReadsSame content new
same_opened one_way content new records rest is are others reads =
    let same : records ≡ others = one_way content records others (rest, is.reads) reads in
    subst (λ (rs : List (Record Definition)). ReadsAs new rs) same (whole_reads new records are)

back_opened : AreReadOneWay → (content new : List ℕ) (records : List (Record Definition)) (rest : List ℕ) → IsTapeOf content records rest → AreRecords new records → ReadsSame new content
back_opened one_way content new records rest is are others reads =
    let same : records ≡ others = one_way new records others (whole_reads new records are) reads in
    subst (λ (rs : List (Record Definition)). ReadsAs content rs) same (rest, is.reads)

pub alike_opened : AreReadOneWay → (content new : List ℕ) (records : List (Record Definition)) (rest : List ℕ) → IsTapeOf content records rest → AreRecords new records → ReadAlike content new
alike_opened one_way content new records rest is are =
    record { same = same_opened one_way content new records rest is are; back = back_opened one_way content new records rest is are }

-- none did: the bad record is still there
pub bad_still : (fault : OpenFault) (old new : List ℕ) (images after : List ℕ → Type 0) → (fault ≢ TapeFailed → IsUnchanged old new images after) → IsWhereBad fault old → IsWhereBad fault new
bad_still TapeFailed old new images after same bad = tt
bad_still (BadRecord offset) old new images after same bad =
    subst (λ (t : List ℕ). IsWhereBad (BadRecord offset) t) (sym (same (λ clash. absurd cc)).content) bad
bad_still Memory old new images after same bad = tt

-- so what reads as the tape that came back reads as the one that was found
pub alike_back : {A E : Type 0} (found back : List ℕ) (fault : OpenFault) (content : A → List ℕ) (result : Result A E) → (fault ≢ TapeFailed → back ≡ found) →
    IfOk result (λ settled. fault ≢ TapeFailed) → IfOk result (λ settled. ReadAlike back (content settled)) → IfOk result (λ settled. ReadAlike found (content settled))
alike_back found back fault content (Ok settled) kept unfailed alike = subst (λ (t : List ℕ). ReadAlike t (content settled)) (kept unfailed) alike
alike_back found back fault content (Err why) kept unfailed alike = tt

-- a bad record is no failure
pub unfailed : {A E : Type 0} (offset : ℕ) (result : Result A E) → IfOk result (λ settled. BadRecord offset ≢ TapeFailed)
unfailed offset (Ok settled) = λ clash. absurd cc
unfailed offset (Err why) = tt

-- two changes in turn
pub alike_twice : (found front new : List ℕ) → ReadAlike found front → ReadAlike front new → ReadAlike found new
alike_twice found front new first second = record {
  same = λ records reads. second.same records (first.same records reads);
  back = λ records reads. first.back records (second.back records reads);
}

-- what a tape that is bad somewhere is read as, it is read as without what is bad
pub alike_front : AreReadOneWay → (found front : List ℕ) (offset : ℕ) → IsBadAt found offset → ReadsSame found front → ReadAlike found front
alike_front one_way found front offset bad same =
    let reads : ReadsAs found bad.0 = (drop offset found, record { splits = bad.1; longest = bad.2.longest }) in
    record {
      same = same;
      back = λ others read.
          let is : bad.0 ≡ others = one_way front bad.0 others (same bad.0 reads) read in
          subst (λ (rs : List (Record Definition)). ReadsAs found rs) is reads;
    }

-- ---- what a tape holds

-- it stands for what one that is read alike stands for
pub stands_back : (found new : List ℕ) (stored : DurableState Definition) → ReadAlike found new → IsFoldOf stored new → StandsFor stored found
stands_back found new stored alike is = record { records = is.records; reads = alike.back is.records (is.rest, is.tape.reads); folds = is.folds }

-- a node on bytes that stand for what it has stored
pub held_by : (file : NodeFile) (content : List ℕ) (stored : DurableState Definition) → StandsFor stored content → HoldsAll file.known stored → HasHeld file content
held_by file content stored stands holds = record { stored = stored; stands = stands; holds = holds }

pub not_held_by : (file : NodeFile) (content : List ℕ) (stored : DurableState Definition) (fault : CommandFault) → StandsFor stored content → IsWhyNotHeld file.known stored fault →
    IsWhyNotHeldBy file content fault
not_held_by file content stored (faults.Rejected why) stands less = record { stored = stored; stands = stands; less = less }
not_held_by file content stored (faults.TapeBad offset) stands is = absurd is
not_held_by file content stored fault stands is = is

-- no node opened on them
pub not_opened_by : (file : NodeFile) (content : List ℕ) (why : OpenFault) (fault : CommandFault) → fault ≡ copy_fault_of why → IsWhyDamaged why content → IsWhyNotHeldBy file content fault
not_opened_by file content TapeFailed fault is bad = subst (IsWhyNotHeldBy file content) (sym is) tt
not_opened_by file content (BadRecord offset) fault is bad = subst (IsWhyNotHeldBy file content) (sym is) bad
not_opened_by file content Memory fault is bad = subst (IsWhyNotHeldBy file content) (sym is) tt
