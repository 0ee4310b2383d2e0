-- Calls of a disk in turn: the moments inside them, and their failures.
use Rattle.std.proofs.Common.{◌≡◌, ℕ, List, Result, Ok, Err, OnOk, refl, subst, ◌∙◌, arith, inl, inr}
use Rattle.wf_disk.specs.declared.disk.Disk.{Ghosts as Disk}
use Rattle.wf_disk.specs.declared.fault.DiskFault.{DiskFault}
use Rattle.wf_disk.specs.declared.fault.DiskFault.TheVariants as disk
use Rattle.wf_disk.specs.Moments.{Elapses, LeavesNow, AreNested, LeavesOldOrNew, HasRisen}
use Rattle.wf_disk.specs.Folder.{MayLeave}
use Rattle.wf_disk.specs.Call.{IsCounted}
use Rattle.wf_tape.specs.declared.fault.TapeFault.{TapeFault}
use Rattle.wf_tape.specs.declared.fault.TapeFault.TheVariants as tape
use Rattle.wf_tape.specs.Tape.{HasCause}
use Rattle.wf_tape.specs.MomentTheorems.{time_stays, time_on}
use Rattle.wf_tape.specs.DiskTape.{LeavesOnly, tape_fault}

-- one call
pub passes_one : {D : Type 0} (disks : Disk D) (P : List ℕ → Type 0) (old new : D) → Elapses (disks.moment old) (disks.moment new) (disks.left_since old) (disks.left_since new) →
    LeavesOldOrNew (MayLeave (disks.folder old)) (MayLeave (disks.folder new)) (disks.left_since new (disks.moment old)) →
    ((image : List ℕ) → MayLeave (disks.folder old) image → P image) → ((image : List ℕ) → MayLeave (disks.folder new) image → P image) → LeavesOnly disks P old new
passes_one disks P old new time inside before after = record {
  time = time;
  inside = λ image left. elim (inside image left) [ inl was ↦ before image was | inr is ↦ after image is ];
}

-- no call
pub passes_none : {D : Type 0} (disks : Disk D) (old : D) → LeavesNow (MayLeave (disks.folder old)) (disks.left_since old (disks.moment old)) → LeavesOnly disks (MayLeave (disks.folder old)) old old
passes_none disks old now = record { time = time_stays (disks.moment old) (disks.left_since old); inside = now.nothing_else }

-- two calls in turn
pub passes_both : {D : Type 0} (disks : Disk D) (P : List ℕ → Type 0) (a b c : D) → AreNested (disks.left_since c) → LeavesOnly disks P a b → LeavesOnly disks P b c → LeavesOnly disks P a c
passes_both disks P a b c nested first second = record {
  time = time_on (disks.moment a) (disks.moment b) (disks.moment c) (disks.left_since a) (disks.left_since b) (disks.left_since c) nested first.time second.time;
  inside = λ image left. elim (second.time.nothing_else (disks.moment a) image first.time.later left) [
    | inl earlier ↦ first.inside image earlier
    | inr here ↦ second.inside image here
  ];
}

-- what a power cut leaves is what less says, so it is what more says
pub passes_weaker : {D : Type 0} (disks : Disk D) (P Q : List ℕ → Type 0) (old new : D) → LeavesOnly disks P old new → ((image : List ℕ) → P image → Q image) → LeavesOnly disks Q old new
passes_weaker disks P Q old new passes weaker = record { time = passes.time; inside = λ image left. weaker image (passes.inside image left) }

-- ---- failures

-- A call that succeeded counts none.
pub counted_on : {A B : Type 0} (a b c : ℕ) (x : A) (second : Result B DiskFault) → IsCounted {A = A} a b (Ok x) → IsCounted b c second → IsCounted a c second
counted_on a b c x second one two =
    let same : b ≡ a = one.none (λ e. absurd (cc e)) in
    record {
      device = λ e. subst (λ (n : ℕ). HasRisen n c) same (two.device e);
      later = omega (arith, same, two.later);
      none = λ no. two.none no ∙ same;
    }

-- the tape's failure is the disk's
pub cause_ok : {A B : Type 0} (before now : ℕ) (x : A) (y : B) → IsCounted {A = A} before now (Ok x) → HasCause {A = B} before now (Ok y)
cause_ok before now x y counted = record { later = counted.later; device = λ e. absurd (cc e) }

pub cause_err : {A B : Type 0} (before now : ℕ) (fault : DiskFault) (error : TapeFault) → IsCounted {A = A} before now (Err fault) → error ≡ tape_fault fault → HasCause {A = B} before now (Err error)
cause_err before now disk.Device error counted is = record { later = counted.later; device = λ e. counted.device refl }
cause_err before now disk.Memory error counted is = record { later = counted.later; device = λ e. absurd (cc (e, is)) }

-- the tape wants memory where the disk does
pub is_memory : (fault : DiskFault) (error : TapeFault) → error ≡ tape_fault fault → error ≡ tape.Memory → fault ≡ disk.Memory
is_memory disk.Device error is memory = absurd (cc (is, memory))
is_memory disk.Memory error is memory = refl

-- what holds anyway, holds after success
pub on_ok_anyway : {A B P : Type 0} (result : Result A B) → P → OnOk result P
on_ok_anyway (Ok x) holds = holds
on_ok_anyway (Err fault) holds = tt
