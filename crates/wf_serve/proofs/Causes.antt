-- Which call of the folder failed, from one part of a start to the next.
use Rattle.std.proofs.Common.{◌≡◌, ◌<◌, ◌≤◌, ℕ, false, List, ◌∷◌, arith, inl, inr, length, refl, subst, sym}
use Rattle.std.specs.Prelude.{Option, Some, None, Result, Ok, Err, IfErr}
use Rattle.wf_def.specs.Definition.{Definition}
use Rattle.wf_folder.specs.declared.admission.StartRejection.{StartRejection}
use Rattle.wf_folder.specs.declared.admission.StartRejection.TheVariants as rejections
use Rattle.wf_listing.specs.TapeBytes.{most_tape_bytes}
use Rattle.wf_model.specs.DurableState.{DurableState}
use Rattle.wf_node.specs.Node.{stored_of}
use Rattle.wf_serve.specs.FailedCall.{IsCallCause, IsLastCall, IsWhyStopped, IsWhyTapeUnread, is_early, unopened_cause}
use Rattle.wf_serve.specs.LongestTape.{IsWhyDifferent, IsWhyNoNode, IsWhyNotNext, IsWhyUnlike}
use Rattle.wf_serve.specs.StartCause.{start_cause}
use Rattle.wf_serve.specs.declared.check.Longest.{Longest}
use Rattle.wf_serve.specs.declared.event.Cause.{Cause}
use Rattle.wf_serve.specs.declared.event.Cause.TheVariants as causes
use Rattle.wf_store.specs.Call.{Call, IsAfter, failed, failed_at, read, unreplaced}
use Rattle.wf_store.specs.CallTheorems.{after_both, after_none}
use Rattle.wf_store.specs.Fault.{IsWhyUnopened, IsWhyUnwritten}
use Rattle.wf_store.specs.declared.fault.FolderFault.{FolderFault}
use Rattle.wf_store.specs.declared.fault.FolderFault.TheVariants as faults
use Rattle.wf_store.specs.declared.file_name.FileName.TheVariants.{Farm, NodeTape}
use Rattle.wf_folder.specs.FarmFile.{farm_text}

-- ---- the last call

pub last_now : (call : Call) (old new : List Call) → new ≡ call ∷ old → IsLastCall call old new
last_now call old new is = record { before = old; after = after_none old; is = is }

pub last_later : (call : Call) (old middle new : List Call) → IsAfter old middle → IsLastCall call middle new → IsLastCall call old new
last_later call old middle new first last = record { before = last.before; after = after_both old middle last.before first last.after; is = last.is }

pub cause_later : (n : ℕ) (cause : Cause) (old middle new : List Call) → IsAfter old middle → IsCallCause n cause middle new → IsCallCause n cause old new
cause_later n (causes.Folder why) old middle new first is = elim is [
  | inl seen ↦ inl (last_later failed old middle new first seen.0, seen.1)
  | inr (inl unopened) ↦ inr (inl (unopened.0, unopened.1, last_later (failed_at (NodeTape unopened.0)) old middle new first unopened.2, unopened.3))
  | inr (inr tried) ↦ inr (inr (tried.0, tried.1, last_later (unreplaced Farm (farm_text tried.0)) old middle new first tried.2, tried.3))
]
cause_later n (causes.TapeVanished tape) old middle new first (within, last) = (within, last_later (read (NodeTape tape) None) old middle new first last)
cause_later n (causes.TapeTooLong tape) old middle new first (within, (bytes, long, last)) = (within, (bytes, long, last_later (read (NodeTape tape) (Some bytes)) old middle new first last))
cause_later n (causes.TapeFailed tape) old middle new first within = within
cause_later n (causes.Port port) old middle new first is = absurd is
cause_later n _ old middle new first is = tt

-- ---- a tape that was seen isn't read

pub too_long : (number : ℕ) (bytes : List ℕ) (old new : List Call) → most_tape_bytes < length bytes → new ≡ read (NodeTape number) (Some bytes) ∷ old → IsWhyTapeUnread number (causes.TapeTooLong number) old new
too_long number bytes old new long is = (refl, (bytes, long, is))

pub unread_tape : (n number : ℕ) (cause : Cause) (old new : List Call) → n ≤ 64 → number < n → IsWhyTapeUnread number cause old new → IsCallCause n cause old new
unread_tape n number (causes.Folder why) old new most within (unread, is) = inl (last_now failed old new is, inr (inl (inr (number, omega (arith, most, within), unread))))
unread_tape n number (causes.TapeVanished tape) old new most within (at, is) =
    (subst (λ (k : ℕ). k < n) (sym at) within, last_now (read (NodeTape tape) None) old new (subst (λ (k : ℕ). new ≡ read (NodeTape k) None ∷ old) (sym at) is))
unread_tape n number (causes.TapeTooLong tape) old new most within (at, (bytes, long, is)) =
    (subst (λ (k : ℕ). k < n) (sym at) within, (bytes, long, last_now (read (NodeTape tape) (Some bytes)) old new (subst (λ (k : ℕ). new ≡ read (NodeTape k) (Some bytes) ∷ old) (sym at) is)))
unread_tape n number _ old new most within why = absurd why

-- ---- its bytes are no call's

by_node : (n number : ℕ) (bytes : List ℕ) (cause : Cause) (old new : List Call) → IsWhyNoNode number bytes cause → IsCallCause n cause old new
by_node n number bytes (causes.TapeBad tape offset) old new why = tt
by_node n number bytes causes.Memory old new why = tt
by_node n number bytes _ old new why = absurd why

by_other : (n tape other : ℕ) (first second : DurableState Definition) (cause : Cause) (old new : List Call) → IsWhyDifferent tape other first second cause → IsCallCause n cause old new
by_other n tape other first second (causes.TapesDiffer s one another) old new why = tt
by_other n tape other first second _ old new why = absurd why

by_unlike : (n number : ℕ) (bytes : List ℕ) (longest : Option Longest) (cause : Cause) (old new : List Call) → IsWhyUnlike number bytes longest cause → IsCallCause n cause old new
by_unlike n number bytes None cause old new why = absurd why
by_unlike n number bytes (Some longest) cause old new (state, folds, why) = by_other n longest.number number (stored_of longest.node) state cause old new why

pub not_next : (result : Result Longest Cause) (n number : ℕ) (bytes : List ℕ) (longest : Option Longest) (old new : List Call) → IfErr result (IsWhyNotNext number bytes longest) →
    IfErr result (λ cause. IsCallCause n cause old new)
not_next (Ok longer) n number bytes longest old new why = tt
not_next (Err cause) n number bytes longest old new why = elim why [
  | inl bad ↦ by_node n number bytes cause old new bad
  | inr unlike ↦ by_unlike n number bytes longest cause old new unlike
]

-- nor what is in the folder
pub no_call : (n : ℕ) (why : StartRejection) (old new : List Call) → IsCallCause n (start_cause why) old new
no_call n (rejections.BadFile fault) old new = tt
no_call n (rejections.OtherNodes nodes) old new = tt
no_call n (rejections.SurplusTape tape) old new = tt
no_call n (rejections.MissingTape tape) old new = tt

-- ---- no node opens on a tape

pub unopened_is_late : (number : ℕ) (why : FolderFault) → IsWhyUnopened (NodeTape number) why → is_early (unopened_cause number why) ≡ false
unopened_is_late number (faults.Unopened file) is = refl
unopened_is_late number faults.Memory is = refl
unopened_is_late number _ is = absurd is

pub unopened_stops : (number : ℕ) (why : FolderFault) (old new : List Call) → IsLastCall (failed_at (NodeTape number)) old new → IsWhyUnopened (NodeTape number) why →
    IsWhyStopped number (unopened_cause number why) old new
unopened_stops number (faults.Unopened file) old new last is = (last, is)
unopened_stops number faults.Memory old new last is = refl
unopened_stops number _ old new last is = absurd is

pub stopped_cause : (n number : ℕ) (cause : Cause) (old middle new : List Call) → number < n → IsAfter old middle → IsWhyStopped number cause middle new → IsCallCause n cause old new
stopped_cause n number (causes.Folder why) old middle new within first (last, is) = inr (inl (number, within, last_later (failed_at (NodeTape number)) old middle new first last, is))
stopped_cause n number (causes.TapeFailed tape) old middle new within first at = subst (λ (k : ℕ). k < n) (sym at) within
stopped_cause n number causes.Memory old middle new within first why = tt
stopped_cause n number _ old middle new within first why = absurd why

-- ---- the file `farm` isn't written

pub unwritten_is_late : (why : FolderFault) → IsWhyUnwritten Farm why → is_early (causes.Folder why) ≡ false
unwritten_is_late (faults.Unwritten file kind) is = refl
unwritten_is_late faults.Memory is = refl
unwritten_is_late _ is = absurd is
