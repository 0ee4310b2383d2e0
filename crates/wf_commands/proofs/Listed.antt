-- From a tape's bytes to what is written of its file.
use Rattle.std.proofs.Common.{◌≡◌, ◌∙◌, ◌<◌, ℕ, List, [], length, take, refl, sym, subst, inl, inr}
use Rattle.std.specs.Io.KnownBytes.{Appends}
use Rattle.std.specs.Prelude.{Option, Result, Ok, Err, Some, None, IfSome, Vec}
use Rattle.std.specs.declared.alloc.Global.{Global}
use Rattle.wf_listing.specs.Listing.{IsListing}
use Rattle.wf_listing.specs.Map.{IsMapTextAt}
use Rattle.wf_listing.specs.TapeBytes.{most_tape_bytes}
use Rattle.wf_listing.specs.declared.fault.TapeReadFault.{TapeReadFault}
use Rattle.wf_listing.specs.declared.fault.TapeReadFault.TheVariants as tapes
use Rattle.wf_stream.specs.KnownTheorems.{keeps_same}
use Rattle.wf_serve.specs.Start.{IsSurveyed}
use Rattle.wf_serve.specs.declared.survey.Survey.{Survey}
use Rattle.wf_store.specs.Call.{Call, OnlyReads}
use Rattle.wf_store.specs.CallTheorems.{reads_both}
use Rattle.wf_commands.specs.Contents.{Contents}
use Rattle.wf_commands.specs.Folder.{IsFolderListed, IsTapeDone}
use Rattle.wf_commands.specs.Run.{HasListing, HasMap, IsListed, IsMapWritten, IsWhyListless, IsWhyMapless}
use Rattle.wf_commands.specs.declared.fault.RunFault.{RunFault}
use Rattle.wf_commands.specs.declared.fault.RunFault.TheVariants as faults

abbrev failed : RunFault → Result (Unit {0}) RunFault
failed fault = Err fault

pub listed_whole : (bytes text : List ℕ) (old new : Option (List ℕ)) (result : Unit {0}) → IsListing bytes text → Appends old new text → IsListed (Some bytes) old new (Ok result)
listed_whole bytes text old new result listing appends = (bytes, text, refl, listing, appends)

pub listed_in_part : (bytes text : List ℕ) (count : ℕ) (old new : Option (List ℕ)) → IsListing bytes text → Appends old new (take count text) →
    IsListed (Some bytes) old new (failed faults.Write)
listed_in_part bytes text count old new listing appends = (bytes, text, refl, listing, (count, appends))

pub unlisted_for_memory : (content old : Option (List ℕ)) → IsListed content old old (failed (faults.Tape tapes.Memory))
unlisted_for_memory content old = (tt, keeps_same old)

-- of a file whose content, if known, is the bytes
same_listing : (content : Option (List ℕ)) (bytes : List ℕ) (P : List ℕ → Type 0) → IfSome content (λ known. bytes ≡ known) → HasListing (Some bytes) P → HasListing content P
same_listing None bytes P is (found, text, same, listing, holds) = (found, text, tt, listing, holds)
same_listing (Some known) bytes P is (found, text, same, listing, holds) = (found, text, same ∙ is, listing, holds)

same_why : (content : Option (List ℕ)) (bytes : List ℕ) (fault : TapeReadFault) → IfSome content (λ known. bytes ≡ known) → IsWhyListless (Some bytes) fault → IsWhyListless content fault
same_why None bytes tapes.Failed is why = tt
same_why (Some known) bytes tapes.Failed is why = subst (λ (t : List ℕ). most_tape_bytes < length t) is why
same_why content bytes tapes.Memory is why = tt
same_why content bytes tapes.NoMap is why = absurd why

pub known_listed : (content : Option (List ℕ)) (bytes : List ℕ) (old new : Option (List ℕ)) (result : Result (Unit {0}) RunFault) → IfSome content (λ known. bytes ≡ known) →
    IsListed (Some bytes) old new result → IsListed content old new result
known_listed content bytes old new (Ok x) is listed = same_listing content bytes _ is listed
known_listed content bytes old new (Err faults.Write) is listed = same_listing content bytes _ is listed
known_listed content bytes old new (Err (faults.Tape fault)) is listed = (same_why content bytes fault is listed.0, listed.1)
known_listed content bytes old new (Err (faults.Map fault)) is listed = absurd listed
known_listed content bytes old new (Err (faults.Canon fault)) is listed = absurd listed
known_listed content bytes old new (Err (faults.Script fault)) is listed = absurd listed
known_listed content bytes old new (Err faults.Read) is listed = absurd listed
known_listed content bytes old new (Err faults.Serve) is listed = absurd listed
known_listed content bytes old new (Err faults.Wire) is listed = absurd listed

-- of a file that can't be read
pub unlisted : (content old : Option (List ℕ)) (fault : TapeReadFault) → (fault ≡ tapes.Failed → IfSome content (λ known. most_tape_bytes < length known)) → (fault ≡ tapes.NoMap → ⊥) →
    IsListed content old old (failed (faults.Tape fault))
unlisted content old tapes.Failed why none = (why refl, keeps_same old)
unlisted content old tapes.Memory why none = (tt, keeps_same old)
unlisted content old tapes.NoMap why none = absurd (none refl)

-- ---- a map on a tape

pub map_whole : (bytes written : List ℕ) (sequence : ℕ) (text : Vec ℕ Global) (old new : Option (List ℕ)) (result : Unit {0}) → IsMapTextAt bytes sequence (Some text) → written ≡ text.items
    → Appends old new written → IsMapWritten (Some bytes) sequence old new (Ok result)
map_whole bytes written sequence text old new result is same appends = (bytes, (text, refl, is, subst (λ b. Appends old new b) same appends))

pub map_in_part : (bytes written : List ℕ) (sequence : ℕ) (text : Vec ℕ Global) (count : ℕ) (old new : Option (List ℕ)) → IsMapTextAt bytes sequence (Some text) → written ≡ text.items
    → Appends old new (take count written) → IsMapWritten (Some bytes) sequence old new (failed faults.Write)
map_in_part bytes written sequence text count old new is same appends = (bytes, (text, refl, is, (count, subst (λ b. Appends old new (take count b)) same appends)))

pub no_map : (bytes : List ℕ) (sequence : ℕ) (old : Option (List ℕ)) → IsMapTextAt bytes sequence None → IsMapWritten (Some bytes) sequence old old (failed (faults.Tape tapes.NoMap))
no_map bytes sequence old is = ((bytes, refl, is), keeps_same old)

pub map_unwritten_for_memory : (content old : Option (List ℕ)) (sequence : ℕ) → IsMapWritten content sequence old old (failed (faults.Tape tapes.Memory))
map_unwritten_for_memory content old sequence = (tt, keeps_same old)

pub map_unread : (content old : Option (List ℕ)) (sequence : ℕ) (fault : TapeReadFault) → (fault ≡ tapes.Failed → IfSome content (λ known. most_tape_bytes < length known)) →
    (fault ≡ tapes.NoMap → ⊥) → IsMapWritten content sequence old old (failed (faults.Tape fault))
map_unread content old sequence tapes.Failed why none = (why refl, keeps_same old)
map_unread content old sequence tapes.Memory why none = (tt, keeps_same old)
map_unread content old sequence tapes.NoMap why none = absurd (none refl)

same_map : (content : Option (List ℕ)) (bytes : List ℕ) (sequence : ℕ) (P : List ℕ → Type 0) → IfSome content (λ known. bytes ≡ known) → HasMap (Some bytes) sequence P → HasMap content sequence P
same_map None bytes sequence P is (found, (text, same, of, holds)) = (found, (text, tt, of, holds))
same_map (Some known) bytes sequence P is (found, (text, same, of, holds)) = (found, (text, same ∙ is, of, holds))

same_why_map : (content : Option (List ℕ)) (bytes : List ℕ) (sequence : ℕ) (fault : TapeReadFault) → IfSome content (λ known. bytes ≡ known) → IsWhyMapless (Some bytes) sequence fault →
    IsWhyMapless content sequence fault
same_why_map None bytes sequence tapes.Failed is why = tt
same_why_map (Some known) bytes sequence tapes.Failed is why = subst (λ (t : List ℕ). most_tape_bytes < length t) is why
same_why_map content bytes sequence tapes.Memory is why = tt
same_why_map None bytes sequence tapes.NoMap is (found, same, of) = (found, tt, of)
same_why_map (Some known) bytes sequence tapes.NoMap is (found, same, of) = (found, same ∙ is, of)

map_known : (content : Option (List ℕ)) (bytes : List ℕ) (sequence : ℕ) (old new : Option (List ℕ)) (result : Result (Unit {0}) RunFault) → IfSome content (λ known. bytes ≡ known) →
    IsMapWritten (Some bytes) sequence old new result → IsMapWritten content sequence old new result
map_known content bytes sequence old new (Ok x) is written = same_map content bytes sequence _ is written
map_known content bytes sequence old new (Err faults.Write) is written = same_map content bytes sequence _ is written
map_known content bytes sequence old new (Err (faults.Tape fault)) is written = (same_why_map content bytes sequence fault is written.0, written.1)
map_known content bytes sequence old new (Err (faults.Map fault)) is written = absurd written
map_known content bytes sequence old new (Err (faults.Canon fault)) is written = absurd written
map_known content bytes sequence old new (Err (faults.Script fault)) is written = absurd written
map_known content bytes sequence old new (Err faults.Read) is written = absurd written
map_known content bytes sequence old new (Err faults.Serve) is written = absurd written
map_known content bytes sequence old new (Err faults.Wire) is written = absurd written

pub known_written : (content : Option (List ℕ)) (bytes read : List ℕ) (sequence : ℕ) (old new : Option (List ℕ)) (result : Result (Unit {0}) RunFault) → read ≡ bytes
    → IfSome content (λ known. bytes ≡ known) → IsMapWritten (Some read) sequence old new result → IsMapWritten content sequence old new result
known_written content bytes read sequence old new result same is written =
    map_known content bytes sequence old new result is (subst (λ b. IsMapWritten (Some b) sequence old new result) same written)

-- ---- a file or a folder

pub file_done : (contents : Contents) (path : List ℕ) (old new : Option (List ℕ)) (result : Result (Unit {0}) RunFault) → IsListed (contents.file path) old new result →
    IsTapeDone contents path None old new result
file_done contents path old new result listed = inl listed

-- the content of a folder is no file's
pub no_content : {A : Type 0} (content : Option (List ℕ)) (found : Option A) (there : A) → found ≡ Some there → IfSome content (λ _. found ≡ None) → content ≡ None
no_content None found there is none = refl
no_content (Some known) found there is none = let clash : Some there ≡ None = sym is ∙ none in cc

pub folder_done : (contents : Contents) (path : List ℕ) (survey : Survey) (first calls later : List Call) (old new : Option (List ℕ)) (result : Result (Unit {0}) RunFault) → first ≡ [] →
    contents.file path ≡ None → IsSurveyed survey first calls → OnlyReads first calls → OnlyReads calls later → IsFolderListed survey calls later old new result →
    IsTapeDone contents path None old new result
folder_done contents path survey first calls later old new result empty none surveyed seen reads listed = inr (record {
  no_file = none;
  survey = survey;
  calls = calls;
  surveyed = subst (λ (before : List Call). IsSurveyed survey before calls) empty surveyed;
  later = later;
  reads = subst (λ (before : List Call). OnlyReads before later) empty (reads_both first calls later seen reads);
  listed = listed;
})
