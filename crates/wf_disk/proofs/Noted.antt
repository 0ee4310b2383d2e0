-- The moments of a disk in memory: each call ends one.
use Rattle.std.proofs.Common.{◌≡◌, List, ◌∷◌, length, sym, ap, subst, arith, inl, inr, le_refl}
use Rattle.wf_disk.specs.Moments.{LeavesOldOrNew, Elapses}
use Rattle.wf_disk.specs.Folder.{Folder, MayLeave}
use Rattle.wf_disk.specs.MemoryDisk.{WasLeft}
use Rattle.wf_disk.specs.MemoryMoments.{none_later}

pub time_changed : (old new : Folder) (past now : List Folder) → now ≡ old ∷ past → Elapses (length past) (length now) (WasLeft (old ∷ past)) (WasLeft (new ∷ now))
unfolding WasLeft
time_changed old new past now ended = record {
  later = omega (arith, ap length ended);
  kept = λ moment image before left. inr (subst (λ (folders : List Folder). WasLeft folders moment image) (sym ended) left);
  nothing_else = λ moment image before left. elim left [
    | inl here ↦ inr (inl (omega (arith, ap length ended), here.1))
    | inr earlier ↦ inl (subst (λ (folders : List Folder). WasLeft folders moment image) ended earlier)
  ];
}

-- Inside it a power cut leaves what one could before, or what one can after.
pub inside_changed : (old new : Folder) (past now : List Folder) → now ≡ old ∷ past → LeavesOldOrNew (MayLeave old) (MayLeave new) (WasLeft (new ∷ now) (length past))
unfolding WasLeft
inside_changed old new past now ended image left = elim left [
  | inl here ↦ inr here.1
  | inr earlier ↦ elim (subst (λ (folders : List Folder). WasLeft folders (length past) image) ended earlier) [
    | inl was ↦ inl was.1
    | inr before ↦ absurd (none_later past (length past) image (le_refl (length past)) before)
  ]
]
