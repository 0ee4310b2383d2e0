-- The calls of a start, one after the other.
use Rattle.std.proofs.Common.{◌≡◌, ◌⊎◌, ◌∙◌, ℕ, List, ◌∷◌, ap, inl, inr, refl, subst, sym}
use Rattle.std.specs.Prelude.{Some, None, Result, Ok, Err, IfErr, OnErr}
use Rattle.wf_line.specs.declared.replica_line.ReplicaLine.{ReplicaLine}
use Rattle.wf_replica_command.specs.Done.{IsReplicaEnd}
use Rattle.wf_replica_command.specs.Fault.{IsReplicaFault, IsReplicaSystemFault, IsReplicaWordsFault}
use Rattle.wf_replica_command.specs.Start.{
  HasServedClients,
  IsClaimed,
  IsReplicaFolderCause,
  IsOtherText,
  IsReplicaRun,
  IsReplicaStartCause,
  IsStarted,
  IsTapeLookedFor,
  IsUnclaimed,
  IsUnstarted,
  IsWhyUnmadeText,
  IsWhyUnwrittenText,
}
use Rattle.wf_replica_command.specs.declared.fault.ReplicaFault.{ReplicaFault}
use Rattle.wf_replica_command.specs.declared.fault.ReplicaFault.TheVariants as faults
use Rattle.wf_replica_command.specs.declared.plan.ReplicaPlan.{ReplicaPlan}
use Rattle.wf_store.specs.Call.{Call, OnlyReads, locked, counted, read, opened, replaced, unreplaced, failed, failed_at}
use Rattle.wf_store.specs.CallTheorems.{reads_both}
use Rattle.wf_store.specs.declared.file_name.FileName.TheVariants.{Farm, ReplicaTape}
use Rattle.wf_tape.specs.declared.tape.Tape.{Ghosts as Tape}

-- ---- the file `farm`

-- there was none, and it was written in an empty folder
pub claimed_anew : (text : List ℕ) (old mid new : List Call) → mid ≡ read Farm None ∷ old → new ≡ replaced Farm text ∷ counted 0 ∷ mid → IsClaimed text old new
claimed_anew text old mid new first second = inr (second ∙ ap (λ (calls : List Call). replaced Farm text ∷ counted 0 ∷ calls) first)

-- it wasn't: no file was changed, or to write it failed
unclaimed_at : (text : List ℕ) (old mid new : List Call) → mid ≡ read Farm None ∷ old → OnlyReads old mid → OnlyReads mid new ⊎ (new ≡ unreplaced Farm text ∷ counted 0 ∷ mid) → IsUnclaimed text old new
unclaimed_at text old mid new first reads is = elim is [
  | inl only ↦ inl (reads_both old mid new reads only)
  | inr tried ↦ inr (tried ∙ ap (λ (calls : List Call). unreplaced Farm text ∷ counted 0 ∷ calls) first)
]

pub unclaimed_on : (text : List ℕ) (old mid new : List Call) (result : Result (Unit {0}) ReplicaFault) → mid ≡ read Farm None ∷ old → OnlyReads old mid
    → OnErr result (OnlyReads mid new ⊎ (new ≡ unreplaced Farm text ∷ counted 0 ∷ mid)) → OnErr result (IsUnclaimed text old new)
unclaimed_on text old mid new (Ok done) first reads is = tt
unclaimed_on text old mid new (Err fault) first reads is = unclaimed_at text old mid new first reads is

-- it couldn't be read
pub unclaimed_anew : (text : List ℕ) (old new : List Call) → OnlyReads old new → IsUnclaimed text old new
unclaimed_anew text old new reads = inl reads

-- ---- the tape

pub tape_opened : (old looked new : List Call) → OnlyReads old looked → new ≡ opened ReplicaTape ∷ looked → IsTapeLookedFor old new
tape_opened old looked new reads is = subst (λ (calls : List Call). IsTapeLookedFor old calls) (sym is) (reads, inl refl)

pub tape_unopened : (old looked new : List Call) → OnlyReads old looked → new ≡ failed_at ReplicaTape ∷ looked → IsTapeLookedFor old new
tape_unopened old looked new reads is = subst (λ (calls : List Call). IsTapeLookedFor old calls) (sym is) (reads, inr refl)

-- ---- a start

pub begun_by : (text : List ℕ) (held claimed new : List Call) → IsClaimed text held claimed → IsTapeLookedFor claimed new → IsStarted text held new
begun_by text held claimed new farm tape = record { claimed = claimed; farm = farm; tape = tape }

pub started_by : (text : List ℕ) (held claimed new : List Call) → IsClaimed text held claimed → IsTapeLookedFor claimed new → IsStarted text held new ⊎ IsUnclaimed text held new
started_by text held claimed new farm tape = inl (begun_by text held claimed new farm tape)

-- a folder that isn't taken
pub not_claimed : (text : List ℕ) (held new : List Call) → IsUnclaimed text held new → IsStarted text held new ⊎ IsUnclaimed text held new
not_claimed text held new is = inr is

-- the folder was locked before
pub started_on : (text : List ℕ) (old held new : List Call) → held ≡ locked ∷ old → IsStarted text held new → IsStarted text (locked ∷ old) new
started_on text old held new is started = subst (λ (calls : List Call). IsStarted text calls new) is started

pub unstarted_on : (text : List ℕ) (old held new : List Call) → held ≡ locked ∷ old → IsStarted text held new ⊎ IsUnclaimed text held new → IsUnstarted text old new
unstarted_on text old held new is why =
    elim (subst (λ (calls : List Call). IsStarted text calls new ⊎ IsUnclaimed text calls new) is why) [ inl started ↦ inl started | inr unclaimed ↦ inr (inl unclaimed) ]

-- it couldn't be locked
pub not_locked : (text : List ℕ) (old new : List Call) → new ≡ failed ∷ old → IsUnstarted text old new
not_locked text old new is = inr (inr (inl is))

-- a word of the command line is bad
pub not_touched : (text : List ℕ) (calls : List Call) → IsUnstarted text calls calls
not_touched text calls = inr (inr (inr refl))

-- a replica that started has, where it doesn't begin to serve
pub started_so : (text : List ℕ) (old new : List Call) → IsStarted text (locked ∷ old) new → IsUnstarted text old new
started_so text old new started = inl started

-- ---- why none starts

-- the file `farm` was read, and has another text
pub other_found : (text bytes : List ℕ) (old new : List Call) (result : Result (Unit {0}) ReplicaFault) → new ≡ read Farm (Some bytes) ∷ old → IfErr result (IsOtherText text bytes) → IfErr result (IsReplicaFolderCause text old new)
other_found text bytes old new result calls why = by_result result why
  where
    by_result : (r : Result (Unit {0}) ReplicaFault) → IfErr r (IsOtherText text bytes) → IfErr r (IsReplicaFolderCause text old new)
    by_result (Ok done) is = tt
    by_result (Err faults.Version) is = (bytes, calls, is)
    by_result (Err faults.Kind) is = (bytes, calls, is)
    by_result (Err faults.OtherFarm) is = (bytes, calls, is)
    by_result (Err faults.Memory) is = tt
    by_result (Err fault) is = absurd is

-- there is none, and none was made
pub unmade_there : (text : List ℕ) (old mid new : List Call) (result : Result (Unit {0}) ReplicaFault) → mid ≡ read Farm None ∷ old → IfErr result (IsWhyUnmadeText text mid new) → IfErr result (IsReplicaFolderCause text old new)
unmade_there text old mid new result calls why = by_result result (subst (λ (m : List Call). IfErr result (IsWhyUnmadeText text m new)) calls why)
  where
    by_result : (r : Result (Unit {0}) ReplicaFault) → IfErr r (IsWhyUnmadeText text (read Farm None ∷ old) new) → IfErr r (IsReplicaFolderCause text old new)
    by_result (Ok done) is = tt
    by_result (Err (faults.Folder why)) is = inr is
    by_result (Err faults.NotEmpty) is = is
    by_result (Err faults.Memory) is = tt
    by_result (Err fault) is = absurd is

-- the folder is empty, and it wasn't written
pub unwritten_there : (text : List ℕ) (old mid new : List Call) (result : Result (Unit {0}) ReplicaFault) → mid ≡ counted 0 ∷ old → IfErr result (IsWhyUnwrittenText text mid new) → IfErr result (IsWhyUnmadeText text old new)
unwritten_there text old mid new result calls why = by_result result (subst (λ (m : List Call). IfErr result (IsWhyUnwrittenText text m new)) calls why)
  where
    by_result : (r : Result (Unit {0}) ReplicaFault) → IfErr r (IsWhyUnwrittenText text (counted 0 ∷ old) new) → IfErr r (IsWhyUnmadeText text old new)
    by_result (Ok done) is = tt
    by_result (Err (faults.Folder why)) is = inr is
    by_result (Err faults.Memory) is = tt
    by_result (Err fault) is = absurd is

pub memory_cause : (text : List ℕ) (old new : List Call) (fault : ReplicaFault) → fault ≡ faults.Memory → IsReplicaFolderCause text old new fault
memory_cause text old new fault is = subst (IsReplicaFolderCause text old new) (sym is) tt

-- the folder was locked before
pub cause_on : (text : List ℕ) (old held new : List Call) (fault : ReplicaFault) → held ≡ locked ∷ old → IsReplicaFolderCause text held new fault → IsReplicaStartCause text old new fault
cause_on text old held new fault is cause = by_fault fault (subst (λ (calls : List Call). IsReplicaFolderCause text calls new fault) is cause)
  where
    by_fault : (f : ReplicaFault) → IsReplicaFolderCause text (locked ∷ old) new f → IsReplicaStartCause text old new f
    by_fault (faults.Folder why) why_not = inr why_not
    by_fault faults.NotEmpty why_not = why_not
    by_fault faults.Version why_not = why_not
    by_fault faults.Kind why_not = why_not
    by_fault faults.OtherFarm why_not = why_not
    by_fault fault why_not = tt

-- a word of the command line, or the system, is the cause
pub words_cause : (line : ReplicaLine) (text : List ℕ) (old new : List Call) (fault : ReplicaFault) → IsReplicaWordsFault line fault → IsReplicaStartCause text old new fault
words_cause line text old new (faults.Folder why) is = absurd is
words_cause line text old new faults.NotEmpty is = absurd is
words_cause line text old new faults.Version is = absurd is
words_cause line text old new faults.Kind is = absurd is
words_cause line text old new faults.OtherFarm is = absurd is
words_cause line text old new fault is = tt

pub system_cause : (plan : ReplicaPlan) (text : List ℕ) (old new : List Call) (fault : ReplicaFault) → IsReplicaSystemFault plan fault → IsReplicaStartCause text old new fault
system_cause plan text old new (faults.Folder why) is = absurd is
system_cause plan text old new faults.NotEmpty is = absurd is
system_cause plan text old new faults.Version is = absurd is
system_cause plan text old new faults.Kind is = absurd is
system_cause plan text old new faults.OtherFarm is = absurd is
system_cause plan text old new fault is = tt

-- ---- a run

-- what ends a replica that served isn't why another doesn't start
bad_words : (line : ReplicaLine) (fault : ReplicaFault) → IsReplicaFault line fault → HasServedClients (Err fault) → ⊥
bad_words line (faults.Ended why) is has = absurd is
bad_words line (faults.BadPeer index) is has = absurd has
bad_words line (faults.PeerCount count) is has = absurd has
bad_words line (faults.BadAddress option) is has = absurd has
bad_words line faults.Name is has = absurd has
bad_words line (faults.Folder why) is has = absurd has
bad_words line faults.NotEmpty is has = absurd has
bad_words line faults.Version is has = absurd has
bad_words line faults.Kind is has = absurd has
bad_words line faults.OtherFarm is has = absurd has
bad_words line faults.Poll is has = absurd has
bad_words line (faults.Taken option address) is has = absurd has
bad_words line faults.Memory is has = absurd has

pub run_served : {T : Type 0} (tapes : Tape T) (plan : ReplicaPlan) (text : List ℕ) (old new : List Call) (result : Result (Unit {0}) ReplicaFault) → IsReplicaEnd tapes plan result
    → IsStarted text (locked ∷ old) new → IsReplicaRun text old new result
run_served tapes plan text old new result ends started = record { served = λ _. started; others = inl started; cause = by_result result ends }
  where
    by_result : (r : Result (Unit {0}) ReplicaFault) → IsReplicaEnd tapes plan r → IfErr r (IsReplicaStartCause text old new)
    by_result (Ok done) is = tt
    by_result (Err (faults.Ended why)) is = tt
    by_result (Err (faults.BadPeer index)) is = absurd is
    by_result (Err (faults.PeerCount count)) is = absurd is
    by_result (Err (faults.BadAddress option)) is = absurd is
    by_result (Err faults.Name) is = absurd is
    by_result (Err (faults.Folder why)) is = absurd is
    by_result (Err faults.NotEmpty) is = absurd is
    by_result (Err faults.Version) is = absurd is
    by_result (Err faults.Kind) is = absurd is
    by_result (Err faults.OtherFarm) is = absurd is
    by_result (Err faults.Poll) is = tt
    by_result (Err (faults.Taken option address)) is = tt
    by_result (Err faults.Memory) is = tt

pub not_run : (line : ReplicaLine) (text : List ℕ) (old new : List Call) (fault : ReplicaFault) → IsReplicaFault line fault → IsReplicaStartCause text old new fault → IsUnstarted text old new → IsReplicaRun text old new (Err fault)
not_run line text old new fault is cause unstarted = record { served = λ has. absurd (bad_words line fault is has); others = unstarted; cause = cause }
