-- What a crash may leave while a journal is opened, and while a record is added.
use Rattle.std.proofs.Common.{◌≡◌, ◌⊎◌, ℕ, ◌≤◌, arith, List, [], ◌∷◌, ◌++◌, take, drop, refl, sym, ap, subst, ◌∙◌, append_assoc, inl, inr}
use Rattle.std.proofs.lemmas.List.{append-nil, append_cancel_left}
use Rattle.std.proofs.lemmas.Bool.{cases_lt}
use Rattle.wf_def.specs.Definition.{Definition}
use Rattle.wf_canon.specs.TextMeaning.{OneTextOneMap}
use Rattle.wf_model.specs.DurableState.{Record}
use Rattle.wf_journal.specs.declared.open_error.OpenFault.{OpenFault}
use Rattle.wf_journal.specs.declared.open_error.OpenFault.TheVariants.{TapeFailed, BadRecord, Memory}
use Rattle.wf_tape.specs.Tape.{IsPrefixOf, IsOnlyImage, IsUnchanged, LeavesNoOther, IsExtended, IsCutShort, LeavesOldOr, LeavesOldOrCut, HasRisen}
use Rattle.wf_journal.specs.Encoding.{Encodes}
use Rattle.wf_journal.specs.Records.{ReadsAs, AreRecords, AreWritten}
use Rattle.wf_journal.specs.Front.{HasRead}
use Rattle.wf_journal.specs.Journal.{IsContent, Holds, HoldsRecords, IsSettled, AllReadAs, Follows, ReadsSame, ReadsOneMore, ReadsSameOrOneMore, IsSameOrRecords, IsSameOrReads, IsSameOrWritten, LeavesOldOrWritten, IsWhereBad, IsNotBad, IsWhyFailed}
use Rattle.wf_journal.proofs.Lists.{one_more, cut_reads, whole_reads, reads_only, one_reading, first_are_records}

-- ---- appending

-- an image after a part of the bytes was appended is one after all of them were
pub cut_shorter : (content bytes new : List ℕ) (old images : List ℕ → Type 0) → IsExtended content bytes new → LeavesOldOrCut new old images → LeavesOldOrCut (content ++ bytes) old images
cut_shorter content bytes new old images extended leaves image left = elim (leaves image left) [
  | inl was ↦ inl was
  | inr cut ↦
      let begins = cut.0 in
      let front : List ℕ = extended.0 in
      inr ((begins.0 ++ extended.1.0, ap (λ (t : List ℕ). content ++ t) extended.1.1 ∙ sym (append_assoc content front extended.1.0) ∙ ap (λ (t : List ℕ). t ++ extended.1.0) (sym extended.2 ∙ begins.1) ∙ append_assoc image begins.0 extended.1.0), cut.1)
]

-- appending all of the bytes is appending a prefix of them
pub extended_whole : (content bytes new : List ℕ) → new ≡ content ++ bytes → IsExtended content bytes new
extended_whole content bytes new is = (bytes, ([], sym (append-nil bytes)), is)

-- a sync after it adds no image
pub cut_synced : (content : List ℕ) (old mid new : List ℕ → Type 0) → LeavesOldOrCut content old mid → LeavesNoOther mid new → LeavesOldOrCut content old new
cut_synced content old mid new cut no_other image left = cut image (no_other image left)

-- ---- opening

-- images after nothing changed read the same
pub same_unchanged : (old new : List ℕ → Type 0) → LeavesNoOther old new → Follows ReadsSame old new
same_unchanged old new no_other image left = (image, no_other image left, λ records reads. reads)

-- The prefix of the records reads as the whole content does.
front_same : OneTextOneMap → (content : List ℕ) (records : List (Record Definition)) (n : ℕ) → HasRead content records n → ReadsSame content (take n content)
front_same one_map content records n read others reads =
    let front = first_are_records content records n read.within read.is_tape.reads.splits in
    let same = one_reading one_map content records others (drop n content) reads.0 read.is_tape.reads.splits read.is_tape.reads.longest reads.1.splits reads.1.longest in
    subst (λ (rs : List (Record Definition)). ReadsAs (take n content) rs) same (whole_reads (take n content) records front)

-- so images after the content is cut to its records read the same
pub same_settled : OneTextOneMap → (content : List ℕ) (records : List (Record Definition)) (n : ℕ) (old mid new : List ℕ → Type 0) → HasRead content records n → old content → LeavesNoOther old mid →
    LeavesOldOr (take n content) mid new → Follows ReadsSame old new
same_settled one_map content records n old mid new read is_image no_other or_front image left =
    elim (or_front image left) [
      | inl was ↦ (image, no_other image was, λ records reads. reads)
      | inr is ↦ (content, is_image, subst (λ (t : List ℕ). ReadsSame content t) (sym is) (front_same one_map content records n read))
    ]

pub holds_front : (content new_content : List ℕ) (records : List (Record Definition)) (n : ℕ) (images : List ℕ → Type 0) → HasRead content records n → new_content ≡ take n content → IsOnlyImage new_content images → HoldsRecords new_content images records
holds_front content new_content records n images read is only =
    record { are_records = subst (λ (t : List ℕ). AreRecords t records) (sym is) (first_are_records content records n read.within read.is_tape.reads.splits); only = only }

-- ---- read first, and settled after that

-- The tape holds the records at the front of the bytes that were read, after it is cut to them.
pub holds_found : (bytes kept new_content : List ℕ) (records : List (Record Definition)) (n m : ℕ) (images : List ℕ → Type 0) → HasRead bytes records n → kept ≡ bytes → m ≡ n →
    new_content ≡ take m kept → IsOnlyImage new_content images → HoldsRecords new_content images records
holds_found bytes kept new_content records n m images read same_bytes same_front is only =
    holds_front bytes new_content records n images read (is ∙ ap (λ (t : List ℕ). take m t) same_bytes ∙ ap (λ (k : ℕ). take k bytes) same_front) only

-- So each image then reads as the records.
pub reads_held : (content : List ℕ) (records : List (Record Definition)) (images : List ℕ → Type 0) → HoldsRecords content images records → AllReadAs images records
reads_held content records images held image left = subst (λ (t : List ℕ). ReadsAs t records) (sym (held.only.no_other image left)) (whole_reads content records held.are_records)

-- Images during that read as the bytes did.
pub same_found : OneTextOneMap → (bytes kept content : List ℕ) (records : List (Record Definition)) (n : ℕ) (old new : List ℕ → Type 0) → HasRead bytes records n → IsContent bytes content old → kept ≡ bytes →
    LeavesOldOr (take n kept) old new → Follows ReadsSame old new
same_found one_map bytes kept content records n old new read is same or_front =
    same_settled one_map bytes records n old old new read (subst (λ (t : List ℕ). old t) (sym is.same) is.is_image) (λ image left. left)
    (subst (λ (t : List ℕ). LeavesOldOr (take n t) old new) same or_front)

-- Reading adds no image: so an image after the tape is settled comes from one before both.
pub followed_on : (old mid new : List ℕ → Type 0) → LeavesNoOther old mid → Follows ReadsSame mid new → Follows ReadsSame old new
followed_on old mid new no_other follows image left = let earlier = follows image left in (earlier.0, no_other earlier.0 earlier.1, earlier.2)

pub unchanged_on : (a b c : List ℕ) (old mid new : List ℕ → Type 0) → IsUnchanged a b old mid → IsUnchanged b c mid new → IsUnchanged a c old new
unchanged_on a b c old mid new first second = record {
  content = second.content ∙ first.content;
  kept = λ image is. second.kept image (first.kept image is);
  no_other = λ image is. first.no_other image (second.no_other image is);
}

risen_on : (before mid now : ℕ) → before ≤ mid → mid ≤ now → HasRisen mid now → HasRisen before now
risen_on before mid now first second risen =
    elim risen [
      | inl rose ↦ inl (omega arith)
      | inr last ↦ elim (cases_lt before mid) [ inl rose ↦ inl (omega arith) | inr same ↦ inr (omega arith) ]
    ]

-- A count that rose after the tape was read rose since before.
pub why_failed_on : (fault : OpenFault) (before mid now : ℕ) → before ≤ mid → mid ≤ now → IsWhyFailed fault mid now → IsWhyFailed fault before now
why_failed_on TapeFailed before mid now first second why = risen_on before mid now first second why
why_failed_on (BadRecord byte_offset) before mid now first second why = tt
why_failed_on Memory before mid now first second why = tt

pub not_bad_anywhere : (fault : OpenFault) (content : List ℕ) → IsNotBad fault → IsWhereBad fault content
not_bad_anywhere TapeFailed content good = tt
not_bad_anywhere (BadRecord byte_offset) content good = absurd good
not_bad_anywhere Memory content good = tt

-- ---- adding

-- a prefix of the content with the record's bytes, that begins with the content, is the content
-- followed by a prefix of them
added_front : (content spelled image : List ℕ) → IsPrefixOf image (content ++ spelled) → IsPrefixOf content image → (front : List ℕ) × (after : List ℕ) × (image ≡ content ++ front) × (spelled ≡ front ++ after)
added_front content spelled image within behind =
    let regrouped : content ++ spelled ≡ content ++ (behind.0 ++ within.0) =
    within.1 ∙ ap (λ (t : List ℕ). t ++ within.0) behind.1 ∙ append_assoc content behind.0 within.0 in
    (behind.0, within.0, behind.1, append_cancel_left content spelled (behind.0 ++ within.0) regrouped)

-- each image reads as the records before, or with the one that is added
pub same_or_more : OneTextOneMap → (content spelled : List ℕ) (r : Record Definition) (old new : List ℕ → Type 0) → IsSettled content old → Encodes r spelled → IsCutShort (content ++ spelled) old new →
    Follows (ReadsSameOrOneMore r) old new
same_or_more one_map content spelled r old new settled spells cut image left =
    let held = settled.1 in
    let behind : IsPrefixOf content image = subst (λ (t : List ℕ). IsPrefixOf t image) (held.only.no_other (cut image left).1.0 (cut image left).1.1) (cut image left).1.2 in
    let parts = added_front content spelled image (cut image left).0 behind in
    let cut_spelled : Encodes r (parts.0 ++ parts.1) = subst (λ (t : List ℕ). Encodes r t) parts.3 spells in
    let reads = subst (λ (t : List ℕ). ReadsAs t settled.0 ⊎ ReadsAs t (settled.0 ++ r ∷ [])) (sym parts.2) (cut_reads one_map content settled.0 r parts.0 parts.1 held.are_records cut_spelled) in
    (content, held.only.is_image, λ others read. subst (λ (rs : List (Record Definition)). ReadsAs image rs ⊎ ReadsAs image (rs ++ r ∷ [])) (reads_only one_map content settled.0 others held.are_records read) reads)

pub same_kept : (r : Record Definition) (old new : List ℕ → Type 0) → LeavesNoOther old new → Follows (ReadsSameOrOneMore r) old new
same_kept r old new no_other image left = (image, no_other image left, λ records reads. inl reads)

-- after Ok it reads as one more
pub now_more : OneTextOneMap → (content spelled new_content : List ℕ) (r : Record Definition) (old new : List ℕ → Type 0) → IsSettled content old → Encodes r spelled → new_content ≡ content ++ spelled → IsOnlyImage new_content new →
    Follows (ReadsOneMore r) old new
now_more one_map content spelled new_content r old new settled spells is only image left =
    let held = settled.1 in
    let image_is : image ≡ content ++ spelled = only.no_other image left ∙ is in
    let reads = subst (λ (t : List ℕ). ReadsAs t (settled.0 ++ r ∷ [])) (sym image_is) (whole_reads (content ++ spelled) (settled.0 ++ r ∷ []) (one_more content settled.0 r spelled held.are_records spells)) in
    (content, held.only.is_image, λ others read. subst (λ (rs : List (Record Definition)). ReadsAs image (rs ++ r ∷ [])) (reads_only one_map content settled.0 others held.are_records read) reads)

-- and the tape holds exactly them
pub settled_more : (content spelled new_content : List ℕ) (r : Record Definition) (old new : List ℕ → Type 0) → IsSettled content old → Encodes r spelled → new_content ≡ content ++ spelled → IsOnlyImage new_content new →
    IsSettled new_content new
settled_more content spelled new_content r old new settled spells is only =
    (settled.0 ++ r ∷ [], record { are_records = subst (λ (t : List ℕ). AreRecords t (settled.0 ++ r ∷ [])) (sym is) (one_more content settled.0 r spelled settled.1.are_records spells); only = only })

-- nothing changed: the tape holds the same
pub settled_same : (content new_content : List ℕ) (old new : List ℕ → Type 0) → IsSettled content old → IsUnchanged content new_content old new → IsSettled new_content new
settled_same content new_content old new settled same =
    let held = settled.1 in (
      settled.0,
      record {
        are_records = subst (λ (t : List ℕ). AreRecords t settled.0) (sym same.content) held.are_records;
        only = record {
          is_image = subst (λ (t : List ℕ). new t) (sym same.content) (same.kept content held.only.is_image);
          no_other = λ image left. held.only.no_other image (same.no_other image left) ∙ sym same.content;
        };
      },
    )

-- ---- replacing

-- The tape holds the records whose encodings were written.
pub holds_written : (content bytes : List ℕ) (records : List (Record Definition)) (images : List ℕ → Type 0) → AreWritten bytes records → content ≡ bytes → IsOnlyImage bytes images →
    Holds content images records
holds_written content bytes records images are is only = record {
  are_written = subst (λ (t : List ℕ). AreWritten t records) (sym is) are;
  only = subst (λ (t : List ℕ). IsOnlyImage t images) (sym is) only;
}

pub settled_written : (content bytes : List ℕ) (records : List (Record Definition)) (images : List ℕ → Type 0) → AreRecords bytes records → content ≡ bytes → IsOnlyImage bytes images →
    IsSettled content images
settled_written content bytes records images are is only = (
  records,
  record {
    are_records = subst (λ (t : List ℕ). AreRecords t records) (sym is) are;
    only = subst (λ (t : List ℕ). IsOnlyImage t images) (sym is) only;
  },
)

-- Each image then reads as them.
pub follows_replaced : (content bytes : List ℕ) (records : List (Record Definition)) (old new : List ℕ → Type 0) → IsSettled content old → AreRecords bytes records → IsOnlyImage bytes new →
    Follows (IsSameOrReads records) old new
follows_replaced content bytes records old new settled are only image left =
    (content, settled.1.only.is_image, inr (subst (λ (t : List ℕ). ReadsAs t records) (sym (only.no_other image left)) (whole_reads bytes records are)))

-- If the tape failed, each image is one from before or exactly the records.
pub failed_images : (content bytes : List ℕ) (records : List (Record Definition)) (old new : List ℕ → Type 0) → IsSettled content old → AreRecords bytes records → LeavesOldOr bytes old new →
    Follows (IsSameOrRecords records) old new
failed_images content bytes records old new settled are leaves image left =
    elim (leaves image left) [
      | inl was ↦ (image, was, inl refl)
      | inr is ↦ (content, settled.1.only.is_image, inr (subst (λ (t : List ℕ). AreRecords t records) (sym is) are))
    ]

reads_same_or : (records : List (Record Definition)) (earlier image : List ℕ) → IsSameOrRecords records earlier image → IsSameOrReads records earlier image
reads_same_or records earlier image same_or =
    elim same_or [
      | inl same ↦ inl same
      | inr are ↦ inr (whole_reads image records are)
    ]

pub follows_failed : (content bytes : List ℕ) (records : List (Record Definition)) (old new : List ℕ → Type 0) → IsSettled content old → AreRecords bytes records → LeavesOldOr bytes old new →
    Follows (IsSameOrReads records) old new
follows_failed content bytes records old new settled are leaves image left =
    let earlier = failed_images content bytes records old new settled are leaves image left in
    (earlier.0, earlier.1, reads_same_or records earlier.0 image earlier.2)

-- So is the content.
pub failed_content : (old new bytes : List ℕ) (records : List (Record Definition)) → AreRecords bytes records → (new ≡ old) ⊎ (new ≡ bytes) → IsSameOrRecords records old new
failed_content old new bytes records are old_or =
    elim old_or [
      | inl same ↦ inl same
      | inr is ↦ inr (subst (λ (t : List ℕ). AreRecords t records) (sym is) are)
    ]

-- Nothing changed: each image is one from before.
pub unchanged_images : (records : List (Record Definition)) (old new : List ℕ → Type 0) → LeavesNoOther old new → Follows (IsSameOrRecords records) old new
unchanged_images records old new no_other image left = (image, no_other image left, inl refl)

pub follows_unchanged : (records : List (Record Definition)) (old new : List ℕ → Type 0) → LeavesNoOther old new → Follows (IsSameOrReads records) old new
follows_unchanged records old new no_other image left = (image, no_other image left, inl refl)

-- ---- replacing what isn't a journal's

pub settled_held : (content : List ℕ) (records : List (Record Definition)) (images : List ℕ → Type 0) → Holds content images records → IsSettled content images
settled_held content records images held = (records, record { are_records = held.are_written.are_records; only = held.only })

-- Each image is one from before or exactly the records.
pub written_images : (bytes : List ℕ) (records : List (Record Definition)) (old new : List ℕ → Type 0) → AreWritten bytes records → LeavesOldOr bytes old new → LeavesOldOrWritten records old new
written_images bytes records old new are leaves image left =
    elim (leaves image left) [
      | inl was ↦ inl was
      | inr is ↦ inr (subst (λ (t : List ℕ). AreWritten t records) (sym is) are)
    ]

-- So is the content.
pub written_content : (old new bytes : List ℕ) (records : List (Record Definition)) → AreWritten bytes records → (new ≡ old) ⊎ (new ≡ bytes) → IsSameOrWritten records old new
written_content old new bytes records are old_or =
    elim old_or [
      | inl same ↦ inl same
      | inr is ↦ inr (subst (λ (t : List ℕ). AreWritten t records) (sym is) are)
    ]

-- Nothing changed.
pub written_unchanged : (records : List (Record Definition)) (old new : List ℕ → Type 0) → LeavesNoOther old new → LeavesOldOrWritten records old new
written_unchanged records old new no_other image left = inl (no_other image left)
