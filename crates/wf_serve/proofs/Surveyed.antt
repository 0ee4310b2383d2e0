-- What a survey of a folder has found, call by call.
use Rattle.std.proofs.Common.{◌≡◌, ◌≢◌, ◌∙◌, ◌+◌, ◌<◌, ◌≤◌, ℕ, zero, suc, List, ◌∷◌, length, ap, arith, inl, inr, refl, subst, sym}
use Rattle.std.proofs.lemmas.List.{get_or-set_other, get_or-set_same}
use Rattle.std.specs.Prelude.{Some, None, slice_index_or}
use Rattle.std.proofs.Math.ListN.{set}
use Rattle.wf_folder.specs.declared.admission.FoundFile.{FoundFile}
use Rattle.wf_folder.specs.declared.admission.FoundFile.TheVariants as finds
use Rattle.wf_folder.specs.declared.presence.Presence.{Presence}
use Rattle.wf_folder.specs.declared.presence.Presence.TheVariants.{Absent}
use Rattle.wf_serve.proofs.Causes.{last_later, last_now}
use Rattle.wf_serve.specs.FailedCall.{IsWhyUnsurveyed}
use Rattle.wf_serve.specs.Start.{HasFound, IsFarmFileFound, IsSurveyed, looks}
use Rattle.wf_serve.specs.declared.survey.Survey.{Survey}
use Rattle.wf_store.specs.Call.{Call, OnlyReads, failed, read, seen}
use Rattle.wf_store.specs.Fault.{IsWhyUnread}
use Rattle.wf_store.specs.declared.fault.FolderFault.{FolderFault}
use Rattle.wf_store.specs.declared.file_name.FileName.TheVariants.{Farm, NodeTape}

-- ---- the file `farm`

pub none_found : (old new : List Call) → new ≡ read Farm None ∷ old → HasFound finds.Nothing old new
none_found old new is = record { bytes = None; says = tt; calls = is }

pub one_found : (found : FoundFile) (bytes text : List ℕ) (old new : List Call) → text ≡ bytes → new ≡ read Farm (Some bytes) ∷ old → IsFarmFileFound (Some text) found → HasFound found old new
one_found found bytes text old new same is says = record { bytes = Some bytes; says = subst (λ (t : List ℕ). IsFarmFileFound (Some t) found) same says; calls = is }

pub unread : (why : FolderFault) (old new : List Call) → new ≡ failed ∷ old → IsWhyUnread Farm why → IsWhyUnsurveyed why old new
unread why old new is so = (last_now failed old new is, inl so)

-- ---- the tapes

pub no_look : (tapes : List Presence) (calls : List Call) → calls ≡ looks tapes 0 calls
unfolding looks
no_look tapes calls = refl

-- a tape further on isn't looked for yet
looks_before : (tapes : List Presence) (there : Presence) (at number : ℕ) (before : List Call) → number ≤ at → looks (set tapes at there) number before ≡ looks tapes number before
unfolding looks
looks_before tapes there at zero before least = refl
looks_before tapes there at (suc number) before least =
    let other : number ≢ at = omega (arith, least) in
    let same : slice_index_or (set tapes at there) number Absent ≡ slice_index_or tapes number Absent = get_or-set_other tapes at number there Absent other in
    ap (λ (p : Presence). seen (NodeTape number) p ∷ looks (set tapes at there) number before) same
    ∙ ap (λ (calls : List Call). seen (NodeTape number) (slice_index_or tapes number Absent) ∷ calls) (looks_before tapes there at number before (omega (arith, least)))

next_look : (tapes : List Presence) (there : Presence) (number : ℕ) (before : List Call) → number < length tapes → looks (set tapes number there) (suc number) before ≡ seen (NodeTape number) there ∷ looks tapes number before
unfolding looks
next_look tapes there number before within =
    ap (λ (p : Presence). seen (NodeTape number) p ∷ looks (set tapes number there) number before) (get_or-set_same tapes number there Absent within)
    ∙ ap (λ (calls : List Call). seen (NodeTape number) there ∷ calls) (looks_before tapes there number number before (omega arith))

-- one more was seen
pub one_more_look : (tapes : List Presence) (there : Presence) (number : ℕ) (before middle new : List Call) → number < length tapes → middle ≡ looks tapes number before → new ≡ seen (NodeTape number) there ∷ middle →
    new ≡ looks (set tapes number there) (number + 1) before
one_more_look tapes there number before middle new within so is =
    let same : suc number ≡ number + 1 = omega arith in
    let up : new ≡ looks (set tapes number there) (suc number) before =
    is ∙ ap (λ (calls : List Call). seen (NodeTape number) there ∷ calls) so ∙ sym (next_look tapes there number before within) in
    subst (λ (n : ℕ). new ≡ looks (set tapes number there) n before) same up

-- all were seen
pub looked_for_all : (number : ℕ) (tapes : List Presence) (old new : List Call) → number ≡ 64 → new ≡ looks tapes number old → new ≡ looks tapes 64 old
looked_for_all number tapes old new all is = subst (λ (n : ℕ). new ≡ looks tapes n old) all is

-- or one wasn't
pub unseen : (number : ℕ) (why : FolderFault) (old middle new : List Call) → number < 64 → OnlyReads old middle → new ≡ failed ∷ middle → IsWhyUnread (NodeTape number) why → IsWhyUnsurveyed why old new
unseen number why old middle new within reads is unread = (record { before = middle; after = reads.after; is = is }, inr (number, within, unread))

-- ---- both

pub surveyed : (survey : Survey) (old middle new : List Call) → HasFound survey.found old middle → length survey.tapes ≡ 64 → new ≡ looks survey.tapes 64 middle → IsSurveyed survey old new
surveyed survey old middle new found size seen = record { middle = middle; found = found; size = size; seen = seen }

pub unlooked : (why : FolderFault) (old middle new : List Call) → OnlyReads old middle → IsWhyUnsurveyed why middle new → IsWhyUnsurveyed why old new
unlooked why old middle new reads unseen = (last_later failed old middle new reads.after unseen.0, unseen.1)
