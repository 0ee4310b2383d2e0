-- The calls of a start, one after the other.
use Rattle.std.proofs.Common.{◌≡◌, ◌⊎◌, ◌∙◌, ◌+◌, ◌<◌, ℕ, suc, true, false, List, ◌∷◌, ap, arith, inl, inr, refl, subst, sym}
use Rattle.std.specs.Prelude.{Result, Ok, Err, IfErr, OnOk}
use Rattle.wf_folder.specs.Admission.{IsStart}
use Rattle.wf_folder.specs.FarmFile.{IsFarmFile, farm_text}
use Rattle.wf_folder.specs.declared.admission.Start.{Start}
use Rattle.wf_folder.specs.declared.admission.StartRejection.{StartRejection}
use Rattle.wf_folder.specs.declared.farm_file.Beginning.{Beginning}
use Rattle.wf_folder.specs.declared.farm_file.FarmFile.{FarmFile}
use Rattle.wf_folder.specs.declared.presence.Presence.{Presence}
use Rattle.wf_serve.proofs.Causes.{cause_later, last_now, no_call, stopped_cause, unopened_is_late, unopened_stops, unwritten_is_late}
use Rattle.wf_serve.specs.FailedCall.{IsCallCause, IsWhyUnsurveyed, is_early, unopened_cause}
use Rattle.wf_serve.specs.Start.{HaveOpened, IsMarkDrawn, IsFarmAdmitted, IsFarmBegun, IsFarmRejected, IsFarmStarted, IsFarmTried, IsFiled, IsStoppedAt, IsSurveyed, IsNodeTapeOpened, IsTapeStopped, IsFarmUnwritten, IsFarmWritten, tape_opens}
use Rattle.wf_serve.specs.StartCause.{start_cause}
use Rattle.wf_serve.specs.TapeCheck.{AreTapesChecked}
use Rattle.wf_serve.specs.declared.event.Cause.{Cause}
use Rattle.wf_serve.specs.declared.event.Cause.TheVariants as causes
use Rattle.wf_serve.specs.declared.survey.Survey.{Survey}
use Rattle.wf_store.specs.Call.{Call, IsAfter, OnlyReads, changes, failed, failed_at, locked, opened, replaced, unreplaced}
use Rattle.wf_store.specs.CallTheorems.{after_both, after_none, after_one}
use Rattle.wf_store.specs.Fault.{IsWhyUndrawn, IsWhyUnlocked, IsWhyUnopened, IsWhyUnwritten}
use Rattle.wf_store.specs.declared.fault.FolderFault.{FolderFault}
use Rattle.wf_store.specs.declared.file_name.FileName.TheVariants.{Farm, NodeTape}

-- an early cause isn't a late one
not_early : (cause : Cause) → is_early cause ≡ false → is_early cause ≡ true → ⊥
not_early cause late early = let clash : false ≡ true = sym late ∙ early in cc

-- ---- one tape

opened_change : (number : ℕ) (a b : List Call) → b ≡ opened (NodeTape number) ∷ a → changes b ≡ opened (NodeTape number) ∷ changes a
opened_change number a b is = ap changes is

failed_change : (number : ℕ) (a b : List Call) → b ≡ failed_at (NodeTape number) ∷ a → changes b ≡ failed_at (NodeTape number) ∷ changes a
failed_change number a b is = ap changes is

-- it was opened between two calls that changed nothing
pub tape_opened : (number : ℕ) (old a b new : List Call) → OnlyReads old a → b ≡ opened (NodeTape number) ∷ a → OnlyReads b new → IsNodeTapeOpened number old new
tape_opened number old a b new first is second = record {
  after = after_both old a new first.after (after_both a b new (after_one (opened (NodeTape number)) a b is) second.after);
  changed = second.unchanged ∙ opened_change number a b is ∙ ap (λ (calls : List Call). opened (NodeTape number) ∷ calls) first.unchanged;
}

-- it was opened, but the node wasn't kept
pub tape_kept : (number : ℕ) (old a b new : List Call) → OnlyReads old a → b ≡ opened (NodeTape number) ∷ a → OnlyReads b new → IsTapeStopped number causes.Memory old new
tape_kept number old a b new first is second =
    let whole : IsNodeTapeOpened number old new = tape_opened number old a b new first is second in
    record { after = whole.after; changed = inr (inr whole.changed); late = refl; why = tt }

-- it was opened, and failed then
pub tape_failed : (number : ℕ) (old a new : List Call) → OnlyReads old a → new ≡ opened (NodeTape number) ∷ a → IsTapeStopped number (causes.TapeFailed number) old new
tape_failed number old a new first is = record {
  after = after_both old a new first.after (after_one (opened (NodeTape number)) a new is);
  changed = inr (inr (opened_change number a new is ∙ ap (λ (calls : List Call). opened (NodeTape number) ∷ calls) first.unchanged));
  late = refl;
  why = refl;
}

-- it can't be opened
unopened_for : (number : ℕ) (why : FolderFault) (old a new : List Call) → OnlyReads old a → new ≡ failed_at (NodeTape number) ∷ a → IsWhyUnopened (NodeTape number) why →
    IsTapeStopped number (unopened_cause number why) old new
unopened_for number why old a new first is unopened = record {
  after = after_both old a new first.after (after_one (failed_at (NodeTape number)) a new is);
  changed = inr (inl (failed_change number a new is ∙ ap (λ (calls : List Call). failed_at (NodeTape number) ∷ calls) first.unchanged));
  late = unopened_is_late number why unopened;
  why = unopened_stops number why old new (record { before = a; after = first.after; is = is }) unopened;
}

pub tape_unopened : (number : ℕ) (why : FolderFault) (cause : Cause) (old a new : List Call) → cause ≡ unopened_cause number why → OnlyReads old a → new ≡ failed_at (NodeTape number) ∷ a →
    IsWhyUnopened (NodeTape number) why → IsTapeStopped number cause old new
tape_unopened number why cause old a new same first is unopened =
    subst (λ (c : Cause). IsTapeStopped number c old new) (sym same) (unopened_for number why old a new first is unopened)

-- an allocation failed before
pub none_stopped : (number : ℕ) (calls : List Call) → IsTapeStopped number causes.Memory calls calls
none_stopped number calls = record { after = after_none calls; changed = inl refl; late = refl; why = tt }

-- ---- the tapes in turn

pub none_opened_yet : (calls : List Call) → HaveOpened 0 calls calls
unfolding tape_opens
none_opened_yet calls = record { after = after_none calls; changed = refl }

one_more_change : (number : ℕ) (before middle new : List Call) → middle ≡ tape_opens number before → new ≡ opened (NodeTape number) ∷ middle → new ≡ tape_opens (suc number) before
unfolding tape_opens
one_more_change number before middle new so is = is ∙ ap (λ (calls : List Call). opened (NodeTape number) ∷ calls) so

pub one_more_opened : (number : ℕ) (old middle new : List Call) → HaveOpened number old middle → IsNodeTapeOpened number middle new → HaveOpened (number + 1) old new
one_more_opened number old middle new have more =
    let same : suc number ≡ number + 1 = omega arith in
    subst (λ (n : ℕ). HaveOpened n old new) same (record {
      after = after_both old middle new have.after more.after;
      changed = one_more_change number (changes old) (changes middle) (changes new) have.changed more.changed;
    })

pub all_opened : (n number : ℕ) (old new : List Call) → number ≡ n → HaveOpened number old new → HaveOpened n old new
all_opened n number old new all have = subst (λ (k : ℕ). HaveOpened k old new) all have

pub tapes_stopped : (n number : ℕ) (cause : Cause) (old middle new : List Call) → number < n → HaveOpened number old middle → IsTapeStopped number cause middle new → IsFarmRejected n cause old new
tapes_stopped n number cause old middle new within have stopped = elim stopped.changed [
  | inl same ↦ record {
    after = after_both old middle new have.after stopped.after;
    count = number;
    most = omega (arith, within);
    stopped = inl (same ∙ have.changed);
    early = λ early. absurd (not_early cause stopped.late early);
    why = stopped_cause n number cause old middle new within have.after stopped.why;
  }
  | inr (inl unopened) ↦ record {
    after = after_both old middle new have.after stopped.after;
    count = number;
    most = omega (arith, within);
    stopped = inr (inl (within, unopened ∙ ap (λ (calls : List Call). failed_at (NodeTape number) ∷ calls) have.changed));
    early = λ early. absurd (not_early cause stopped.late early);
    why = stopped_cause n number cause old middle new within have.after stopped.why;
  }
  | inr (inr more) ↦ record {
    after = after_both old middle new have.after stopped.after;
    count = suc number;
    most = omega (arith, within);
    stopped = inl (one_more_change number (changes old) (changes middle) (changes new) have.changed more);
    early = λ early. absurd (not_early cause stopped.late early);
    why = stopped_cause n number cause old middle new within have.after stopped.why;
  }
]

-- ---- the file `farm`

pub not_written : (file : FarmFile) (why : FolderFault) (old new : List Call) → IsFarmFile file → new ≡ unreplaced Farm (farm_text file) ∷ old → IsWhyUnwritten Farm why →
    IsFarmUnwritten (causes.Folder why) old new
not_written file why old new sound is unwritten = (unwritten, (file, sound, is))

pub written_last : (n : ℕ) (file : FarmFile) (old before new : List Call) → HaveOpened n old before → new ≡ replaced Farm (farm_text file) ∷ before → IsFarmWritten n file old new
written_last n file old before new opened is = record { before = before; opened = opened; written = is }

left_after : (before new : List Call) → (new ≡ before) ⊎ IsFarmTried before new → IsAfter before new
left_after before new left = elim left [
  | inl same ↦ subst (λ (calls : List Call). IsAfter before calls) (sym same) (after_none before)
  | inr tried ↦ after_one (unreplaced Farm (farm_text tried.0)) before new tried.2
]

left_changes : (n : ℕ) (before : List Call) (mid new : List Call) → changes mid ≡ tape_opens n before → (new ≡ mid) ⊎ IsFarmTried mid new → IsStoppedAt n n before (changes new)
left_changes n before mid new opened left = elim left [
  | inl same ↦ inl (ap changes same ∙ opened)
  | inr tried ↦ inr (inr (tried.0, tried.1, ap changes tried.2 ∙ ap (λ (calls : List Call). unreplaced Farm (farm_text tried.0) ∷ calls) opened))
]

-- what is left then, by the cause
left_so : (cause : Cause) (before new : List Call) → IsFarmUnwritten cause before new → (new ≡ before) ⊎ IsFarmTried before new
left_so (causes.Folder why) before new (unwritten, tried) = inr tried
left_so causes.Memory before new same = inl same
left_so _ before new unwritten = absurd unwritten

unwritten_late : (cause : Cause) (before new : List Call) → IsFarmUnwritten cause before new → is_early cause ≡ false
unwritten_late (causes.Folder why) before new (unwritten, tried) = unwritten_is_late why unwritten
unwritten_late causes.Memory before new same = refl
unwritten_late _ before new unwritten = absurd unwritten

unwritten_cause : (n : ℕ) (cause : Cause) (old before new : List Call) → IsAfter old before → IsFarmUnwritten cause before new → IsCallCause n cause old new
unwritten_cause n (causes.Folder why) old before new first (unwritten, (file, sound, is)) =
    inr (inr (file, sound, record { before = before; after = first; is = is }, unwritten))
unwritten_cause n causes.Memory old before new first same = tt
unwritten_cause n _ old before new first unwritten = absurd unwritten

pub unwritten : (n : ℕ) (cause : Cause) (old before new : List Call) → HaveOpened n old before → IsFarmUnwritten cause before new → IsFarmRejected n cause old new
unwritten n cause old before new opened left = record {
  after = after_both old before new opened.after (left_after before new (left_so cause before new left));
  count = n;
  most = omega arith;
  stopped = left_changes n (changes old) before new opened.changed (left_so cause before new left);
  early = λ early. absurd (not_early cause (unwritten_late cause before new left) early);
  why = unwritten_cause n cause old before new opened.after left;
}

-- ---- a start

no_opens : (calls : List Call) → calls ≡ tape_opens 0 calls
unfolding tape_opens
no_opens calls = refl

-- it was rejected when nothing was changed
pub only_read : (n : ℕ) (cause : Cause) (old new : List Call) → OnlyReads old new → IsCallCause n cause old new → IsFarmRejected n cause old new
only_read n cause old new reads why = record {
  after = reads.after;
  count = 0;
  most = omega arith;
  stopped = inl (reads.unchanged ∙ no_opens (changes old));
  early = λ _. reads.unchanged;
  why = why;
}

pub unlocked : (n : ℕ) (why : FolderFault) (old new : List Call) → OnlyReads old new → new ≡ failed ∷ old → IsWhyUnlocked why → IsFarmRejected n (causes.Folder why) old new
unlocked n why old new reads is so = only_read n (causes.Folder why) old new reads (inl (last_now failed old new is, inl so))

pub unsurveyed : (n : ℕ) (why : FolderFault) (old new : List Call) → OnlyReads old new → IsWhyUnsurveyed why old new → IsFarmRejected n (causes.Folder why) old new
unsurveyed n why old new reads unseen = only_read n (causes.Folder why) old new reads (inl (unseen.0, inr (inl unseen.1)))

pub unadmitted : (n : ℕ) (why : StartRejection) (cause : Cause) (old new : List Call) → OnlyReads old new → cause ≡ start_cause why → IsFarmRejected n cause old new
unadmitted n why cause old new reads is =
    only_read n cause old new reads (subst (λ (c : Cause). IsCallCause n c old new) (sym is) (no_call n why old new))

pub undrawn : (n : ℕ) (why : FolderFault) (old new : List Call) → OnlyReads old new → new ≡ failed ∷ old → IsWhyUndrawn why → IsFarmRejected n (causes.Folder why) old new
undrawn n why old new reads is so = only_read n (causes.Folder why) old new reads (inl (last_now failed old new is, inr (inr so)))

-- or later
rejected_later : (n : ℕ) (cause : Cause) (old middle new : List Call) → OnlyReads old middle → IsFarmRejected n cause middle new → IsFarmRejected n cause old new
rejected_later n cause old middle new reads rejected = record {
  after = after_both old middle new reads.after rejected.after;
  count = rejected.count;
  most = rejected.most;
  stopped = subst (λ (calls : List Call). IsStoppedAt n rejected.count calls (changes new)) reads.unchanged rejected.stopped;
  early = λ early. rejected.early early ∙ reads.unchanged;
  why = cause_later n cause old middle new reads.after rejected.why;
}

pub rejected_so : {A : Type 0} (n : ℕ) (result : Result A Cause) (old middle new : List Call) → OnlyReads old middle → IfErr result (λ cause. IsFarmRejected n cause middle new) →
    IfErr result (λ cause. IsFarmRejected n cause old new)
rejected_so n (Ok x) old middle new reads rejected = tt
rejected_so n (Err cause) old middle new reads rejected = rejected_later n cause old middle new reads rejected

pub locked_first : {A : Type 0} (n : ℕ) (result : Result A Cause) (old held new : List Call) → held ≡ locked ∷ old → OnOk result (IsFarmStarted n held new) → OnOk result (IsFarmStarted n (locked ∷ old) new)
locked_first n result old held new is started = subst (λ (calls : List Call). OnOk result (IsFarmStarted n calls new)) is started

-- by what was found, and once the tapes were read
pub started : {A : Type 0} (n : ℕ) (result : Result A Cause) (survey : Survey) (tapes : List Presence) (start : Start) (held surveyed new : List Call) → tapes ≡ survey.tapes → IsSurveyed survey held surveyed →
    IsStart n survey.found tapes start → OnOk result (IsFarmAdmitted n survey start surveyed new) → OnOk result (IsFarmStarted n held new)
started n (Ok x) survey tapes start held surveyed new same found may admitted = record {
  survey = survey;
  surveyed = surveyed;
  found = found;
  start = start;
  may = subst (λ (t : List Presence). IsStart n survey.found t start) same may;
  admitted = admitted;
}
started n (Err cause) survey tapes start held surveyed new same found may admitted = tt

pub admitted : {A : Type 0} (n : ℕ) (result : Result A Cause) (survey : Survey) (tapes : List Presence) (start : Start) (old checked new : List Call) → tapes ≡ survey.tapes → AreTapesChecked n tapes old checked →
    OnOk result (IsFarmBegun n start checked new) → OnOk result (IsFarmAdmitted n survey start old new)
admitted n (Ok x) survey tapes start old checked new same were begun = record {
  checked = checked;
  tapes = subst (λ (t : List Presence). AreTapesChecked n t old checked) same were;
  begun = begun;
}
admitted n (Err cause) survey tapes start old checked new same were begun = tt

-- with a mark that was drawn
pub filed : {A : Type 0} (n : ℕ) (result : Result A Cause) (beginning : Beginning) (file : FarmFile) (old marked new : List Call) → IsMarkDrawn n beginning file old marked →
    OnOk result (IsFarmWritten n file marked new) → OnOk result (IsFiled n beginning old new)
filed n (Ok x) beginning file old marked new drawn written = record { file = file; marked = marked; drawn = drawn; written = written }
filed n (Err cause) beginning file old marked new drawn written = tt
