-- Calls of a disk in turn: the moments inside them, and their failures.
use Rattle.std.proofs.Common.{◌≡◌, ℕ, List, Ok, subst, ◌∙◌, arith, inl, inr}
use Rattle.std.specs.Prelude.{Result}
use Rattle.wf_disk.specs.declared.disk.Disk.{Ghosts as Disk}
use Rattle.wf_disk.specs.declared.fault.DiskFault.{DiskFault}
use Rattle.wf_disk.specs.Moments.{Elapses, AreNested, LeavesOldOrNew, HasRisen}
use Rattle.wf_disk.specs.Folder.{MayLeave}
use Rattle.wf_disk.specs.Call.{IsCounted}
use Rattle.wf_tape.specs.MomentTheorems.{time_on}
use Rattle.wf_tape.specs.DiskTape.{LeavesOnly}

-- one call
pub passes_one : {D : Type 0} (disks : Disk D) (P : List ℕ → Type 0) (old new : D) → Elapses (disks.moment old) (disks.moment new) (disks.left_since old) (disks.left_since new) →
    LeavesOldOrNew (MayLeave (disks.folder old)) (MayLeave (disks.folder new)) (disks.left_since new (disks.moment old)) →
    ((image : List ℕ) → MayLeave (disks.folder old) image → P image) → ((image : List ℕ) → MayLeave (disks.folder new) image → P image) → LeavesOnly disks P old new
passes_one disks P old new time inside before after = record {
  time = time;
  inside = λ image left. elim (inside image left) [ inl was ↦ before image was | inr is ↦ after image is ];
}

-- two calls in turn
pub passes_both : {D : Type 0} (disks : Disk D) (P : List ℕ → Type 0) (a b c : D) → AreNested (disks.left_since c) → LeavesOnly disks P a b → LeavesOnly disks P b c → LeavesOnly disks P a c
passes_both disks P a b c nested first second = record {
  time = time_on (disks.moment a) (disks.moment b) (disks.moment c) (disks.left_since a) (disks.left_since b) (disks.left_since c) nested first.time second.time;
  inside = λ image left. elim (second.time.nothing_else (disks.moment a) image first.time.later left) [
    | inl earlier ↦ first.inside image earlier
    | inr here ↦ second.inside image here
  ];
}

-- what a power cut leaves is what less says, so it is what more says
pub passes_weaker : {D : Type 0} (disks : Disk D) (P Q : List ℕ → Type 0) (old new : D) → LeavesOnly disks P old new → ((image : List ℕ) → P image → Q image) → LeavesOnly disks Q old new
passes_weaker disks P Q old new passes weaker = record { time = passes.time; inside = λ image left. weaker image (passes.inside image left) }

-- A call that succeeded counts none.
pub counted_on : {A B : Type 0} (a b c : ℕ) (x : A) (second : Result B DiskFault) → IsCounted {A = A} a b (Ok x) → IsCounted b c second → IsCounted a c second
counted_on a b c x second one two =
    let same : b ≡ a = one.none (λ e. absurd (cc e)) in
    record {
      device = λ e. subst (λ (n : ℕ). HasRisen n c) same (two.device e);
      later = omega (arith, same, two.later);
      none = λ no. two.none no ∙ same;
    }
