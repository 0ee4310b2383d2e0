-- A power cut leaves what the calls say: after one call more.
use Rattle.std.proofs.Common.{◌≡◌, ◌⊎◌, ◌∙◌, ℕ, Bool, true, false, List, [], ◌∷◌, ap, inl, inr, refl, sym, subst, nat_eq}
use Rattle.std.specs.Prelude.{⊤, Option, Some, None, if◌then◌else◌}
use Rattle.wf_disk.specs.Folder.{MayLeave}
use Rattle.wf_disk.specs.MemoryDisk.{DiskValue, IsFileLeftSince, moment_of}
use Rattle.wf_disk.specs.MemoryMoments.{memory_now}
use Rattle.wf_folder.specs.declared.presence.Presence.{Presence}
use Rattle.wf_power_cuts.proofs.DiskLemmas.{one_file, untouched}
use Rattle.wf_power_cuts.specs.Cut.{CouldLeave, WasGiven, IsCutAfter, IsLeftIn, MayLeaveNow, OfFile, is_file}
use Rattle.wf_power_cuts.specs.Disks.{AreOnlyRead, AreCutsTold, ChangesDisk, DiskSet, LeavesOnDisk, IsOldOr, WereLeft, disk_of, empty_disks, no_files}
use Rattle.wf_disk.specs.FolderTheorems.{no_file_is_left, none_is_left}
use Rattle.wf_store.specs.declared.file_name.FileName.TheVariants.{Farm, Heard, Joins, NodeTape, Replaced, ReplicaTape}
use Rattle.wf_store.specs.Call.{Call, compared, counted, drawn, failed, failed_at, locked, made, measured, opened, opened_existing, read, replaced, seen, unreplaced}
use Rattle.wf_store.specs.declared.call_kind.CallKind.{CallKind}
use Rattle.wf_store.specs.declared.call_kind.CallKind.TheVariants as kinds
use Rattle.wf_store.specs.declared.file_name.FileName.{FileName}

-- on disks without files a cut leaves none
none_left : (image : List ℕ) → MayLeave no_files.folder image → image ≡ []
none_left image left = elim left [ inl own ↦ none_is_left image own | inr back ↦ absurd (no_file_is_left image back) ]

nothing_left : (node : ℕ) (file : FileName) (image : List ℕ) → MayLeave (disk_of (empty_disks node) file).folder image → image ≡ []
nothing_left node Farm image left = none_left image left
nothing_left node Heard image left = none_left image left
nothing_left node Joins image left = none_left image left
nothing_left node Replaced image left = none_left image left
nothing_left node (NodeTape other) image left = none_left image (subst (λ (disk : DiskValue). MayLeave disk.folder image) (same_chosen (nat_eq node other)) left)
  where
    same_chosen : (is : Bool) → (if is then no_files else no_files) ≡ no_files
    same_chosen true = refl
    same_chosen false = refl
nothing_left node ReplicaTape image left = none_left image left

-- before the first call
pub told_first : (node : ℕ) (now : DiskSet) → now ≡ empty_disks node → AreCutsTold [] now []
unfolding MayLeaveNow CouldLeave WereLeft
told_first node now is = subst (λ (disks : DiskSet). AreCutsTold [] disks []) (sym is) (record {
  now_told = λ file image left. nothing_left node file image left;
  told = λ images were. λ file. nothing_left node file (images file) (were file);
})

-- ---- a disk

-- the one of the file that a call is on, or another
chosen : (is : Bool) (on other : Type 0) → (is ≡ true → on) → (is ≡ false → other) → OfFile is on other
chosen true on other here there = here refl
chosen false on other here there = there refl

-- what a cut may leave after a call, one could leave inside it
inside_too : (kind : CallKind) (bytes : Option (List ℕ)) (file : FileName) (before : List ℕ → Type 0) (image : List ℕ) → IsCutAfter kind bytes file before image → IsLeftIn kind bytes file before image
inside_too (kinds.Replaces named) bytes file before image left = given_too (is_file named file) left
  where
    given_too : (is : Bool) → OfFile is (WasGiven bytes image) (before image) → OfFile is (before image ⊎ WasGiven bytes image) (before image)
    given_too true given = inr given
    given_too false was = was
inside_too (kinds.FailsAt named) bytes file before image left = left
inside_too (kinds.Opens named) bytes file before image left = left
inside_too (kinds.OpensExisting named) bytes file before image left = left
inside_too kinds.Makes bytes file before image left = left
inside_too kinds.Locks bytes file before image left = left
inside_too (kinds.Compares same) bytes file before image left = left
inside_too (kinds.Counts count) bytes file before image left = left
inside_too (kinds.Draws bits) bytes file before image left = left
inside_too (kinds.Sees named there) bytes file before image left = left
inside_too (kinds.Measures named length) bytes file before image left = left
inside_too (kinds.Reads named) bytes file before image left = left
inside_too kinds.Fails bytes file before image left = left

-- what a cut may leave now it could leave at some moment
could_now : (calls : List Call) (images : FileName → List ℕ) → ((file : FileName) → MayLeaveNow calls file (images file)) → CouldLeave calls images
unfolding MayLeaveNow CouldLeave
could_now [] images left = left
could_now (call ∷ earlier) images left = inl (λ file. inside_too call.kind call.bytes file (MayLeaveNow earlier file) (images file) (left file))

-- ---- one call more

module _ (calls : List Call) (now new : DiskSet) (past : List DiskSet) (told : AreCutsTold calls now past) where
  -- what a cut could leave of a file before it
  abbrev could : FileName → List ℕ → Type 0
  could = MayLeaveNow calls

  told_step : (call : Call) → ((file : FileName) (image : List ℕ) → MayLeave (disk_of new file).folder image → IsCutAfter call.kind call.bytes file (could file) image)
      → ((file : FileName) (image : List ℕ) → IsFileLeftSince (disk_of new file) (moment_of (disk_of now file)) image → IsLeftIn call.kind call.bytes file (could file) image)
      → AreCutsTold (call ∷ calls) new (now ∷ past)
  unfolding MayLeaveNow CouldLeave WereLeft
  told_step call after inside = record {
    now_told = after;
    told = λ images were. elim were [
      | inl here ↦ inl (λ file. inside file (images file) (here file))
      | inr before ↦ inr (told.told images before)
    ];
  }

  -- ---- one that changed no file

  module _ (reads : AreOnlyRead now new) where
    after_read : (file : FileName) (image : List ℕ) → MayLeave (disk_of new file).folder image → could file image
    after_read file image left = told.now_told file image ((reads file).after image left)

    inside_read : (file : FileName) (image : List ℕ) → IsFileLeftSince (disk_of new file) (moment_of (disk_of now file)) image → could file image
    inside_read file image left = told.now_told file image ((reads file).inside image left)

    -- it was looked at files, and no call was noted yet
    pub told_looked : AreCutsTold calls new (now ∷ past)
    unfolding WereLeft
    told_looked = record {
      now_told = after_read;
      told = λ images were. elim were [
        | inl here ↦ could_now calls images (λ file. inside_read file (images file) (here file))
        | inr before ↦ told.told images before
      ];
    }

    pub told_made : AreCutsTold (made ∷ calls) new (now ∷ past)
    told_made = told_step made after_read inside_read

    pub told_locked : AreCutsTold (locked ∷ calls) new (now ∷ past)
    told_locked = told_step locked after_read inside_read

    pub told_compared : (same : Bool) → AreCutsTold (compared same ∷ calls) new (now ∷ past)
    told_compared same = told_step (compared same) after_read inside_read

    pub told_counted : (count : ℕ) → AreCutsTold (counted count ∷ calls) new (now ∷ past)
    told_counted count = told_step (counted count) after_read inside_read

    pub told_drawn : (bits : List ℕ) → AreCutsTold (drawn bits ∷ calls) new (now ∷ past)
    told_drawn bits = told_step (drawn bits) after_read inside_read

    pub told_seen : (file : FileName) (there : Presence) → AreCutsTold (seen file there ∷ calls) new (now ∷ past)
    told_seen file there = told_step (seen file there) after_read inside_read

    pub told_measured : (file : FileName) (length : Option ℕ) → AreCutsTold (measured file length ∷ calls) new (now ∷ past)
    told_measured file length = told_step (measured file length) after_read inside_read

    pub told_read : (file : FileName) (bytes : Option (List ℕ)) → AreCutsTold (read file bytes ∷ calls) new (now ∷ past)
    told_read file bytes = told_step (read file bytes) after_read inside_read

    pub told_failed : AreCutsTold (failed ∷ calls) new (now ∷ past)
    told_failed = told_step failed after_read inside_read

  -- ---- one that changed a file, or may have

  module _ (file : FileName) (P : List ℕ → Type 0) (change : ChangesDisk file P now new) where
    -- of another file what could be left before
    beside_after : (other : FileName) (image : List ℕ) → is_file file other ≡ false → MayLeave (disk_of new other).folder image → could other image
    beside_after other image not left = told.now_told other image (subst (λ (disk : DiskValue). MayLeave disk.folder image) (change.others other not) left)

    beside_inside : (other : FileName) (image : List ℕ) → is_file file other ≡ false → IsFileLeftSince (disk_of new other) (moment_of (disk_of now other)) image → could other image
    beside_inside other image not left =
        told.now_told other image ((untouched (disk_of now other)).inside image (subst (λ (disk : DiskValue). IsFileLeftSince disk (moment_of (disk_of now other)) image) (change.others other not) left))

    -- of the file itself what P says
    own_after : (other : FileName) (image : List ℕ) → is_file file other ≡ true → MayLeave (disk_of new other).folder image → P image
    own_after other image is left = change.own.after image (subst (λ (f : FileName). MayLeave (disk_of new f).folder image) (sym (one_file file other is)) left)

    own_inside : (other : FileName) (image : List ℕ) → is_file file other ≡ true → IsFileLeftSince (disk_of new other) (moment_of (disk_of now other)) image → P image
    own_inside other image is left =
        change.own.inside image (subst (λ (f : FileName). IsFileLeftSince (disk_of new f) (moment_of (disk_of now f)) image) (sym (one_file file other is)) left)

  module _ (file : FileName) (bytes : List ℕ) (change : ChangesDisk file (IsOldOr now file bytes) now new) where
    -- the bytes from before, as the calls so far say, or the new ones
    old_or : (other : FileName) (image : List ℕ) → is_file file other ≡ true → IsOldOr now file bytes image → could other image ⊎ (image ≡ bytes)
    old_or other image is old = elim old [
      | inl was ↦ inl (subst (λ (f : FileName). could f image) (one_file file other is) (told.now_told file image was))
      | inr given ↦ inr given
    ]

    pub told_unreplaced : AreCutsTold (unreplaced file bytes ∷ calls) new (now ∷ past)
    told_unreplaced = told_step (unreplaced file bytes)
        (λ other image left. chosen (is_file file other) (could other image ⊎ (image ≡ bytes)) (could other image)
        (λ is. old_or other image is (own_after file (IsOldOr now file bytes) change other image is left)) (λ not. beside_after file (IsOldOr now file bytes) change other image not left))
        (λ other image left. chosen (is_file file other) (could other image ⊎ (image ≡ bytes)) (could other image)
        (λ is. old_or other image is (own_inside file (IsOldOr now file bytes) change other image is left)) (λ not. beside_inside file (IsOldOr now file bytes) change other image not left))

    pub told_replaced : ((image : List ℕ) → MayLeave (disk_of new file).folder image → image ≡ bytes) → AreCutsTold (replaced file bytes ∷ calls) new (now ∷ past)
    told_replaced alone = told_step (replaced file bytes)
        (λ other image left. chosen (is_file file other) (image ≡ bytes) (could other image)
        (λ is. alone image (subst (λ (f : FileName). MayLeave (disk_of new f).folder image) (sym (one_file file other is)) left)) (λ not. beside_after file (IsOldOr now file bytes) change other image not left))
        (λ other image left. chosen (is_file file other) (could other image ⊎ (image ≡ bytes)) (could other image)
        (λ is. old_or other image is (own_inside file (IsOldOr now file bytes) change other image is left)) (λ not. beside_inside file (IsOldOr now file bytes) change other image not left))

  -- a file wasn't opened
  pub told_failed_at : (file : FileName) → ChangesDisk file (MayLeave (disk_of now file).folder) now new → AreCutsTold (failed_at file ∷ calls) new (now ∷ past)
  told_failed_at file change = told_step (failed_at file)
      (λ other image left. chosen (is_file file other) (could other image ⊎ (image ≡ [])) (could other image)
      (λ is. inl (subst (λ (f : FileName). could f image) (one_file file other is) (told.now_told file image (own_after file (MayLeave (disk_of now file).folder) change other image is left))))
      (λ not. beside_after file (MayLeave (disk_of now file).folder) change other image not left))
      (λ other image left. chosen (is_file file other) (could other image ⊎ (image ≡ [])) (could other image)
      (λ is. inl (subst (λ (f : FileName). could f image) (one_file file other is) (told.now_told file image (own_inside file (MayLeave (disk_of now file).folder) change other image is left))))
      (λ not. beside_inside file (MayLeave (disk_of now file).folder) change other image not left))

  -- a file was opened as a tape, which has its disk then
  module _ (file : FileName) (others : (other : FileName) → is_file file other ≡ false → disk_of new other ≡ disk_of now other) where
    away_after : (other : FileName) (image : List ℕ) → is_file file other ≡ false → MayLeave (disk_of new other).folder image → could other image
    away_after other image not left = told.now_told other image (subst (λ (disk : DiskValue). MayLeave disk.folder image) (others other not) left)

    away_inside : (other : FileName) (image : List ℕ) → is_file file other ≡ false → IsFileLeftSince (disk_of new other) (moment_of (disk_of now other)) image → could other image
    away_inside other image not left =
        told.now_told other image ((untouched (disk_of now other)).inside image (subst (λ (disk : DiskValue). IsFileLeftSince disk (moment_of (disk_of now other)) image) (others other not) left))

    pub told_opened : AreCutsTold (opened file ∷ calls) new (now ∷ past)
    told_opened = told_step (opened file)
        (λ other image left. chosen (is_file file other) ⊤ (could other image) (λ is. tt) (λ not. away_after other image not left))
        (λ other image left. chosen (is_file file other) ⊤ (could other image) (λ is. tt) (λ not. away_inside other image not left))

    pub told_opened_existing : AreCutsTold (opened_existing file ∷ calls) new (now ∷ past)
    told_opened_existing = told_step (opened_existing file)
        (λ other image left. chosen (is_file file other) ⊤ (could other image) (λ is. tt) (λ not. away_after other image not left))
        (λ other image left. chosen (is_file file other) ⊤ (could other image) (λ is. tt) (λ not. away_inside other image not left))
