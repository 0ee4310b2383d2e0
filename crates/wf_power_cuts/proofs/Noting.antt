-- A call more is noted.
use Rattle.std.proofs.Common.{◌≡◌, ◌∙◌, ℕ, Bool, true, false, List, [], ◌∷◌, ◌++◌, ap, refl, subst, sym}
use Rattle.std.proofs.lemmas.Bool.{false≢true}
use Rattle.std.proofs.lemmas.List.{map-append, reverse-append}
use Rattle.std.specs.Prelude.{Option, None, map, reverse}
use Rattle.wf_disk.specs.Folder.{MayLeave}
use Rattle.wf_power_cuts.proofs.DiskLemmas.{none_read, one_read}
use Rattle.wf_power_cuts.proofs.Told.{told_compared, told_counted, told_drawn, told_failed, told_failed_at, told_first, told_locked, told_looked, told_made, told_measured, told_opened, told_opened_existing, told_read, told_replaced, told_seen, told_unreplaced}
use Rattle.wf_power_cuts.specs.Cut.{is_file}
use Rattle.wf_power_cuts.specs.Disks.{AreOnlyRead, AreCutsTold, ChangesDisk, DiskSet, IsOldOr, disk_of, empty_disks, past_of}
use Rattle.wf_store.specs.Call.{Call, failed, failed_at, is_change, opened, opened_existing, read, replaced, unreplaced}
use Rattle.wf_store.specs.declared.call_kind.CallKind.{CallKind}
use Rattle.wf_store.specs.declared.call_kind.CallKind.TheVariants as kinds
use Rattle.wf_store.specs.declared.file_name.FileName.{FileName}

-- the disks before it are the latest
pub past_grows : (notes later : List (DiskSet × Unit {0})) (disks : DiskSet) → later ≡ notes ++ (disks, tt) ∷ [] → past_of later ≡ disks ∷ past_of notes
past_grows notes later disks is =
    ap past_of is ∙ ap (λ (sets : List DiskSet). reverse sets) (map-append (λ note. note.0) notes ((disks, tt) ∷ [])) ∙ reverse-append (map (λ note. note.0) notes) (disks ∷ [])

-- so what a cut leaves is told, where it is of one call more
pub told_by : (calls later : List Call) (notes after : List (DiskSet × Unit {0})) (now new : DiskSet) (call : Call) → after ≡ notes ++ (now, tt) ∷ [] → later ≡ call ∷ calls
    → AreCutsTold (call ∷ calls) new (now ∷ past_of notes) → AreCutsTold later new (past_of after)
told_by calls later notes after now new call grown more told =
    subst (λ (past : List DiskSet). AreCutsTold later new past) (sym (past_grows notes after now grown)) (subst (λ (c : List Call). AreCutsTold c new (now ∷ past_of notes)) (sym more) told)

quiet : (calls : List Call) (now new : DiskSet) (past : List DiskSet) (kind : CallKind) → AreCutsTold calls now past → AreOnlyRead now new → is_change kind ≡ false
    → AreCutsTold (record { kind = kind; bytes = None } ∷ calls) new (now ∷ past)
quiet calls now new past kinds.Makes told reads plain = told_made calls now new past told reads
quiet calls now new past kinds.Locks told reads plain = told_locked calls now new past told reads
quiet calls now new past (kinds.Compares same) told reads plain = told_compared calls now new past told reads same
quiet calls now new past (kinds.Counts count) told reads plain = told_counted calls now new past told reads count
quiet calls now new past (kinds.Draws bits) told reads plain = told_drawn calls now new past told reads bits
quiet calls now new past (kinds.Sees file there) told reads plain = told_seen calls now new past told reads file there
quiet calls now new past (kinds.Measures file length) told reads plain = told_measured calls now new past told reads file length
quiet calls now new past (kinds.Reads file) told reads plain = told_read calls now new past told reads file None
quiet calls now new past (kinds.Opens file) told reads plain = absurd (false≢true (sym plain))
quiet calls now new past (kinds.OpensExisting file) told reads plain = absurd (false≢true (sym plain))
quiet calls now new past (kinds.Replaces file) told reads plain = absurd (false≢true (sym plain))
quiet calls now new past kinds.Fails told reads plain = told_failed calls now new past told reads
quiet calls now new past (kinds.FailsAt file) told reads plain = absurd (false≢true (sym plain))

pub told_quiet : (calls later : List Call) (notes after : List (DiskSet × Unit {0})) (now new : DiskSet) (kind : CallKind) → AreCutsTold calls now (past_of notes) → AreOnlyRead now new → is_change kind ≡ false
    → after ≡ notes ++ (now, tt) ∷ [] → later ≡ record { kind = kind; bytes = None } ∷ calls → AreCutsTold later new (past_of after)
told_quiet calls later notes after now new kind told reads plain grown more =
    told_by calls later notes after now new (record { kind = kind; bytes = None }) grown more (quiet calls now new (past_of notes) kind told reads plain)

pub told_look : (calls : List Call) (notes after : List (DiskSet × Unit {0})) (now new : DiskSet) → AreCutsTold calls now (past_of notes) → AreOnlyRead now new → after ≡ notes ++ (now, tt) ∷ [] → AreCutsTold calls new (past_of after)
told_look calls notes after now new told reads grown = subst (λ (past : List DiskSet). AreCutsTold calls new past) (sym (past_grows notes after now grown)) (told_looked calls now new (past_of notes) told reads)

-- a file was replaced, or was to be
pub told_replacing : (calls later : List Call) (notes after : List (DiskSet × Unit {0})) (now new : DiskSet) (file : FileName) (bytes : List ℕ) → AreCutsTold calls now (past_of notes) → ChangesDisk file (IsOldOr now file bytes) now new
    → ((image : List ℕ) → MayLeave (disk_of new file).folder image → image ≡ bytes) → after ≡ notes ++ (now, tt) ∷ [] → later ≡ replaced file bytes ∷ calls → AreCutsTold later new (past_of after)
told_replacing calls later notes after now new file bytes told change alone grown more =
    told_by calls later notes after now new (replaced file bytes) grown more (told_replaced calls now new (past_of notes) told file bytes change alone)

pub told_not_replacing : (calls later : List Call) (notes after : List (DiskSet × Unit {0})) (now new : DiskSet) (file : FileName) (bytes : List ℕ) → AreCutsTold calls now (past_of notes) → ChangesDisk file (IsOldOr now file bytes) now new
    → after ≡ notes ++ (now, tt) ∷ [] → later ≡ unreplaced file bytes ∷ calls → AreCutsTold later new (past_of after)
told_not_replacing calls later notes after now new file bytes told change grown more =
    told_by calls later notes after now new (unreplaced file bytes) grown more (told_unreplaced calls now new (past_of notes) told file bytes change)

-- bytes of a file were read before, and now that is noted
pub told_reading : (calls later : List Call) (notes after : List (DiskSet × Unit {0})) (now : DiskSet) (file : FileName) (bytes : Option (List ℕ)) → AreCutsTold calls now (past_of notes)
    → after ≡ notes ++ (now, tt) ∷ [] → later ≡ read file bytes ∷ calls → AreCutsTold later now (past_of after)
told_reading calls later notes after now file bytes told grown more =
    told_by calls later notes after now now (read file bytes) grown more (told_read calls now now (past_of notes) told (none_read now now refl) file bytes)

-- a file was opened as a tape, or wasn't
pub told_opening : (calls later : List Call) (notes after : List (DiskSet × Unit {0})) (now new : DiskSet) (file : FileName) → AreCutsTold calls now (past_of notes)
    → ((other : FileName) → is_file file other ≡ false → disk_of new other ≡ disk_of now other)
    → after ≡ notes ++ (now, tt) ∷ [] → later ≡ opened file ∷ calls → AreCutsTold later new (past_of after)
told_opening calls later notes after now new file told others grown more = told_by calls later notes after now new (opened file) grown more (told_opened calls now new (past_of notes) told file others)

pub told_opening_existing : (calls later : List Call) (notes after : List (DiskSet × Unit {0})) (now new : DiskSet) (file : FileName) → AreCutsTold calls now (past_of notes)
    → ((other : FileName) → is_file file other ≡ false → disk_of new other ≡ disk_of now other)
    → after ≡ notes ++ (now, tt) ∷ [] → later ≡ opened_existing file ∷ calls → AreCutsTold later new (past_of after)
told_opening_existing calls later notes after now new file told others grown more =
    told_by calls later notes after now new (opened_existing file) grown more (told_opened_existing calls now new (past_of notes) told file others)

pub told_unopened : (calls later : List Call) (notes after : List (DiskSet × Unit {0})) (now new : DiskSet) (file : FileName) → AreCutsTold calls now (past_of notes) → ChangesDisk file (MayLeave (disk_of now file).folder) now new
    → after ≡ notes ++ (now, tt) ∷ [] → later ≡ failed_at file ∷ calls → AreCutsTold later new (past_of after)
told_unopened calls later notes after now new file told change grown more = told_by calls later notes after now new (failed_at file) grown more (told_failed_at calls now new (past_of notes) told file change)

pub told_unopened_existing : (calls later : List Call) (notes after : List (DiskSet × Unit {0})) (now new : DiskSet) (file : FileName) → AreCutsTold calls now (past_of notes) → ChangesDisk file (MayLeave (disk_of now file).folder) now new
    → after ≡ notes ++ (now, tt) ∷ [] → later ≡ failed ∷ calls → AreCutsTold later new (past_of after)
told_unopened_existing calls later notes after now new file told change grown more =
    told_by calls later notes after now new failed grown more (told_failed calls now new (past_of notes) told (one_read now new file change))

-- before the first call
pub told_new : (node : ℕ) (disks : DiskSet) (calls : List Call) (notes : List (DiskSet × Unit {0})) → disks ≡ empty_disks node → calls ≡ [] → notes ≡ [] → AreCutsTold calls disks (past_of notes)
told_new node disks calls notes empty none nothing =
    subst (λ (c : List Call). AreCutsTold c disks (past_of notes)) (sym none) (subst (λ (past : List DiskSet). AreCutsTold [] disks past) (sym (ap past_of nothing)) (told_first node disks empty))
