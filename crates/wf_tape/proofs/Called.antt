-- A call of a tape in memory meets the contract of its kind, whether or not the failure that is set
-- is this call's.
use Rattle.std.proofs.Common.{◌≡◌, ◌⊎◌, ℕ, ◌≤◌, zero, suc, nat_eq, nat_lt, Bool, true, false, List, ◌∷◌, ◌++◌, length, take, drop, Option, Some, None, Result, Ok, Err, IsErrOf, IfErr, OnOk, OnErr, if◌then◌else◌, refl, sym, ap, subst, ◌∙◌, arith, inl, inr, le_refl}
use Rattle.std.proofs.lemmas.Bool.Decides.{nat_tests}
use Rattle.std.proofs.lemmas.List.{take-append-drop}
use Rattle.std.proofs.lemmas.Result.{on_ok_weaker}
use Rattle.wf_tape.specs.declared.fault.TapeFault.{TapeFault}
use Rattle.wf_tape.specs.declared.fault.TapeFault.TheVariants.{Device, Memory}
use Rattle.wf_tape.specs.declared.memory.Fuse.{Fuse}
use Rattle.wf_tape.specs.Fuse.{count_down, burn}
use Rattle.wf_tape.specs.Tape.{Call, Read, Append, Sync, Replace, error_of, IsOnlyImage, IsUnchanged, LeavesNoOther, IsExtended, LeavesOldOr, LeavesOldOrCut, LeavesOldOrNew, Elapses, HasRisen, HasCause, IsNotMemory, last_count}
use Rattle.wf_tape.specs.MemoryTape.{TapeValue, IsImageNow, IsLeftSince, state_of, moment_of, NeverFails, counted, risen, failed_once, appended, replaced, settled, done, cut_short, IsLeftByCall, IsCalled}
use Rattle.wf_tape.proofs.Images.{content_is_image, only_synced, sync_leaves, append_leaves, not_extended, unchanged}
use Rattle.wf_tape.proofs.Noted.{time_changed, time_same, inside_changed, inside_same, inside_synced, inside_replaced, settled_same}

-- ---- which of the cases of a call it is: the tape is counted, and then changed

pub called_done : (call : Call) (old mid new : TapeValue) → burn old.fuse ≡ None → mid ≡ counted old → new ≡ done call mid → IsCalled call old None new
unfolding IsCalled
called_done call old mid new sound count is =
    subst (λ (at : Option ℕ). IsLeftByCall call at (counted old) None new) (sym sound) (is ∙ ap (done call) count)

short_at : (call : Call) (at : Option ℕ) (tape after : TapeValue) → after ≡ tape → IsLeftByCall call at tape (Some Memory) after
short_at call None tape after is = is
short_at call (Some kept) tape after is = is

pub called_short : (call : Call) (old mid new : TapeValue) → mid ≡ counted old → new ≡ mid → IsCalled call old (Some Memory) new
unfolding IsCalled
called_short call old mid new count is = short_at call (burn old.fuse) (counted old) new (is ∙ count)

pub called_cut : (call : Call) (kept : ℕ) (old mid left new : TapeValue) (fault : TapeFault) → burn old.fuse ≡ Some kept → mid ≡ counted old → left ≡ cut_short kept call mid → fault ≡ Device → new ≡ failed_once left →
    IsCalled call old (Some fault) new
unfolding IsCalled
called_cut call kept old mid left new fault burns count cut device is =
    subst (λ (f : TapeFault). IsLeftByCall call (burn old.fuse) (counted old) (Some f) new) (sym device)
    (subst (λ (at : Option ℕ). IsLeftByCall call at (counted old) (Some Device) new) (sym burns) (is ∙ ap failed_once (cut ∙ ap (cut_short kept call) count)))

-- a call that doesn't fail by the failure that is set, whatever it returns
pub called_sound : {A : Type 0} (call : Call) (old mid new : TapeValue) (result : Result A TapeFault) → burn old.fuse ≡ None → mid ≡ counted old → OnOk result (new ≡ done call mid) → OnErr result (new ≡ mid) →
    IfErr result (λ fault. fault ≡ Memory) → IsCalled call old (error_of result) new
called_sound call old mid new (Ok x) sound count ok err memory = called_done call old mid new sound count ok
called_sound call old mid new (Err Device) sound count ok err memory = absurd (cc memory)
called_sound call old mid new (Err Memory) sound count ok err memory = called_short call old mid new count err

-- an append that fails with no more memory
pub called_lost : (call : Call) (old mid new : TapeValue) (fault : TapeFault) → mid ≡ counted old → new ≡ mid → fault ≡ Memory → IsCalled call old (Some fault) new
called_lost call old mid new fault count is memory = subst (λ (f : TapeFault). IsCalled call old (Some f) new) (sym memory) (called_short call old mid new count is)

-- an append that fails keeps the first of the bytes
pub called_kept : (bytes piece : List ℕ) (kept : ℕ) (old mid left new : TapeValue) (fault : TapeFault) → burn old.fuse ≡ Some kept → mid ≡ counted old → piece ≡ take kept bytes → left ≡ appended mid piece → fault ≡ Device → new ≡ failed_once left →
    IsCalled (Append bytes) old (Some fault) new
called_kept bytes piece kept old mid left new fault burns count piece_is longer device is =
    called_cut (Append bytes) kept old mid left new fault burns count (longer ∙ ap (appended mid) piece_is) device is

-- a replacement that keeps something has the new content
cut_replaced : (kept : ℕ) (bytes : List ℕ) (tape : TapeValue) → (kept ≡ 0 → ⊥) → cut_short kept (Replace bytes) tape ≡ replaced tape bytes
cut_replaced zero bytes tape some = absurd (some refl)
cut_replaced (suc kept) bytes tape some = refl

pub called_replaced : (bytes : List ℕ) (kept : ℕ) (old mid left new : TapeValue) (fault : TapeFault) → burn old.fuse ≡ Some kept → mid ≡ counted old → (kept ≡ 0 → ⊥) → left ≡ replaced mid bytes → fault ≡ Device → new ≡ failed_once left →
    IsCalled (Replace bytes) old (Some fault) new
called_replaced bytes kept old mid left new fault burns count some put device is =
    called_cut (Replace bytes) kept old mid left new fault burns count (put ∙ sym (cut_replaced kept bytes mid some)) device is

-- one that keeps nothing has the old one
pub called_unreplaced : (bytes : List ℕ) (kept : ℕ) (old mid new : TapeValue) (fault : TapeFault) → burn old.fuse ≡ Some kept → mid ≡ counted old → kept ≡ 0 → fault ≡ Device → new ≡ failed_once mid → IsCalled (Replace bytes) old (Some fault) new
called_unreplaced bytes kept old mid new fault burns count none device is =
    called_cut (Replace bytes) 0 old mid mid new fault (burns ∙ ap Some none) count refl device is

-- ---- the count of failures

has_risen_by : (count : ℕ) (last : Bool) → nat_eq count last_count ≡ last → HasRisen count (risen count)
unfolding risen
has_risen_by count true e = inr (grind (arith, nat_tests, e))
has_risen_by count false e = inl (rw e (omega arith))

later_by : (count : ℕ) (last : Bool) → nat_eq count last_count ≡ last → count ≤ risen count
unfolding risen
later_by count true e = rw e (le_refl count)
later_by count false e = rw e (omega arith)

module _ {A : Type 0} (before now : ℕ) where
  cause_ok : (x : A) → now ≡ before → HasCause {A = A} before now (Ok x)
  cause_ok x same = record { later = omega (arith, same); device = λ e. absurd (cc e) }

  cause_memory : now ≡ before → HasCause {A = A} before now (Err Memory)
  cause_memory same = record { later = omega (arith, same); device = λ e. absurd (cc e) }

  cause_device : now ≡ risen before → HasCause {A = A} before now (Err Device)
  cause_device one_more = record {
    later = subst (λ (count : ℕ). before ≤ count) (sym one_more) (later_by before (nat_eq before last_count) refl);
    device = λ e. subst (λ (count : ℕ). HasRisen before count) (sym one_more) (has_risen_by before (nat_eq before last_count) refl);
  }

-- ---- a tape on which no failure is set

-- a call changes nothing of the failure that is set, its counting aside
done_fuse : (call : Call) (tape : TapeValue) → (done call tape).fuse ≡ tape.fuse
done_fuse Read tape = refl
done_fuse (Append bytes) tape = refl
done_fuse Sync tape = refl
done_fuse (Replace bytes) tape = refl

sturdy_at : (call : Call) (tape after : TapeValue) (fault : Option TapeFault) → tape.fuse ≡ None → IsLeftByCall call None tape fault after → NeverFails after
sturdy_at call tape after None none is = ap (λ (k : TapeValue). k.fuse) is ∙ done_fuse call tape ∙ none
sturdy_at call tape after (Some Device) none is = absurd is
sturdy_at call tape after (Some Memory) none is = ap (λ (k : TapeValue). k.fuse) is ∙ none

none_burns : (fuse : Option Fuse) → fuse ≡ None → burn fuse ≡ None
unfolding burn
none_burns fuse none = ap burn none

none_counted : (fuse : Option Fuse) → fuse ≡ None → count_down fuse ≡ None
unfolding count_down
none_counted fuse none = ap count_down none

left_soundly : (call : Call) (old new : TapeValue) (fault : Option TapeFault) → NeverFails old → IsCalled call old fault new → IsLeftByCall call None (counted old) fault new
unfolding IsCalled
left_soundly call old new fault none called = subst (λ (at : Option ℕ). IsLeftByCall call at (counted old) fault new) (none_burns old.fuse none) called

pub stays_sturdy : (call : Call) (old new : TapeValue) (fault : Option TapeFault) → IsCalled call old fault new → NeverFails old → NeverFails new
stays_sturdy call old new fault called none = sturdy_at call (counted old) new fault (none_counted old.fuse none) (left_soundly call old new fault none called)

not_device : (call : Call) (tape after : TapeValue) (fault : TapeFault) → IsLeftByCall call None tape (Some fault) after → fault ≡ Device → ⊥
not_device call tape after Device left is = left
not_device call tape after Memory left is = absurd (cc is)

pub fails_soundly : {A : Type 0} (call : Call) (old new : TapeValue) (result : Result A TapeFault) → IsCalled call old (error_of result) new → NeverFails old → IfErr result (λ fault. fault ≡ Device → ⊥)
fails_soundly call old new (Ok x) called none = tt
fails_soundly call old new (Err fault) called none = not_device call (counted old) new fault (left_soundly call old new (Some fault) none called)

all_synced : (synced length : ℕ) → synced ≤ length → nat_lt synced length ≡ false → synced ≡ length
all_synced synced length within none = grind (arith, nat_tests, within, none)

-- ---- the contract of each kind of call

pub record IsRead {A : Type 0} (old new : TapeValue) (result : Result A TapeFault) : Type 0 where
  pub same : IsUnchanged old.bytes new.bytes (IsImageNow old) (IsImageNow new)
  pub time : Elapses (moment_of old) (moment_of new) (IsLeftSince old) (IsLeftSince new)
  pub inside : LeavesNoOther (IsImageNow old) (IsLeftSince new (moment_of old))
  pub cause : HasCause old.failures new.failures result

pub record IsAppend {A : Type 0} (old new : TapeValue) (bytes : List ℕ) (result : Result A TapeFault) : Type 0 where
  pub ok : OnOk result (new.bytes ≡ old.bytes ++ bytes)
  pub err : OnErr result (IsExtended old.bytes bytes new.bytes)
  pub images : IsNotMemory result → LeavesOldOrCut new.bytes (IsImageNow old) (IsImageNow new)
  pub memory : IsErrOf result Memory → IsUnchanged old.bytes new.bytes (IsImageNow old) (IsImageNow new)
  pub time : Elapses (moment_of old) (moment_of new) (IsLeftSince old) (IsLeftSince new)
  pub inside : LeavesOldOrNew (IsImageNow old) (IsImageNow new) (IsLeftSince new (moment_of old))
  pub cause : HasCause old.failures new.failures result

pub record IsSync {A : Type 0} (old new : TapeValue) (result : Result A TapeFault) : Type 0 where
  pub ok : OnOk result (IsOnlyImage new.bytes (IsImageNow new))
  pub same : new.bytes ≡ old.bytes
  pub images : LeavesNoOther (IsImageNow old) (IsImageNow new)
  pub time : Elapses (moment_of old) (moment_of new) (IsLeftSince old) (IsLeftSince new)
  pub inside : LeavesNoOther (IsImageNow old) (IsLeftSince new (moment_of old))
  pub cause : HasCause old.failures new.failures result

pub record IsReplace {A : Type 0} (old new : TapeValue) (bytes : List ℕ) (result : Result A TapeFault) : Type 0 where
  pub ok : OnOk result (new.bytes ≡ bytes)
  pub synced : OnOk result (IsOnlyImage bytes (IsImageNow new))
  pub err : OnErr result ((new.bytes ≡ old.bytes) ⊎ (new.bytes ≡ bytes))
  pub images : OnErr result (LeavesOldOr bytes (IsImageNow old) (IsImageNow new))
  pub memory : IsErrOf result Memory → IsUnchanged old.bytes new.bytes (IsImageNow old) (IsImageNow new)
  pub time : Elapses (moment_of old) (moment_of new) (IsLeftSince old) (IsLeftSince new)
  pub inside : LeavesOldOr bytes (IsImageNow old) (IsLeftSince new (moment_of old))
  pub cause : HasCause old.failures new.failures result

-- ---- reading

read_is : {A : Type 0} (at : Option ℕ) (tape new : TapeValue) (result : Result A TapeFault) → IsLeftByCall Read at tape (error_of result) new → IsRead tape new result
read_is None tape new (Ok x) is = record {
  same = unchanged tape new (ap (λ (k : TapeValue). k.bytes) is) (ap (λ (k : TapeValue). k.synced) is);
  time = time_same tape new is;
  inside = inside_same tape new is;
  cause = cause_ok tape.failures new.failures x (ap (λ (k : TapeValue). k.failures) is);
}
read_is None tape new (Err Device) left = absurd left
read_is None tape new (Err Memory) is = record {
  same = unchanged tape new (ap (λ (k : TapeValue). k.bytes) is) (ap (λ (k : TapeValue). k.synced) is);
  time = time_same tape new is;
  inside = inside_same tape new is;
  cause = cause_memory tape.failures new.failures (ap (λ (k : TapeValue). k.failures) is);
}
read_is (Some kept) tape new (Ok x) left = absurd left
read_is (Some kept) tape new (Err Device) is = record {
  same = unchanged tape new (ap (λ (k : TapeValue). k.bytes) is) (ap (λ (k : TapeValue). k.synced) is);
  time = time_same (failed_once tape) new is;
  inside = inside_same (failed_once tape) new is;
  cause = cause_device tape.failures new.failures (ap (λ (k : TapeValue). k.failures) is);
}
read_is (Some kept) tape new (Err Memory) is = record {
  same = unchanged tape new (ap (λ (k : TapeValue). k.bytes) is) (ap (λ (k : TapeValue). k.synced) is);
  time = time_same tape new is;
  inside = inside_same tape new is;
  cause = cause_memory tape.failures new.failures (ap (λ (k : TapeValue). k.failures) is);
}

pub reads : {A : Type 0} (old new : TapeValue) (result : Result A TapeFault) → IsCalled Read old (error_of result) new → IsRead old new result
unfolding IsCalled
reads old new result called =
    let is = read_is (burn old.fuse) (counted old) new result called in
    record { same = is.same; time = is.time; inside = is.inside; cause = is.cause }

-- ---- appending

append_short : {A : Type 0} (tape new : TapeValue) (bytes : List ℕ) → new ≡ tape → IsAppend {A = A} tape new bytes (Err Memory)
append_short tape new bytes is = record {
  ok = tt;
  err = not_extended tape.bytes new.bytes bytes (ap (λ (k : TapeValue). k.bytes) is);
  images = λ no. absurd (no refl);
  memory = λ e. unchanged tape new (ap (λ (k : TapeValue). k.bytes) is) (ap (λ (k : TapeValue). k.synced) is);
  time = time_same tape new is;
  inside = λ image left. inl (inside_same tape new is image left);
  cause = cause_memory tape.failures new.failures (ap (λ (k : TapeValue). k.failures) is);
}

append_is : {A : Type 0} (at : Option ℕ) (tape new : TapeValue) (bytes : List ℕ) (result : Result A TapeFault) → tape.synced ≤ length tape.bytes → IsLeftByCall (Append bytes) at tape (error_of result) new → IsAppend tape new bytes result
append_is None tape new bytes (Ok x) within is = record {
  ok = ap (λ (k : TapeValue). k.bytes) is;
  err = tt;
  images = λ no. append_leaves tape new bytes within (ap (λ (k : TapeValue). k.bytes) is) (ap (λ (k : TapeValue). k.synced) is);
  memory = λ e. absurd (cc e);
  time = time_changed tape new (ap (λ (k : TapeValue). k.past) is);
  inside = inside_changed tape new (ap (λ (k : TapeValue). k.past) is);
  cause = cause_ok tape.failures new.failures x (ap (λ (k : TapeValue). k.failures) is);
}
append_is None tape new bytes (Err Device) within left = absurd left
append_is None tape new bytes (Err Memory) within is = append_short tape new bytes is
append_is (Some kept) tape new bytes (Ok x) within left = absurd left
append_is (Some kept) tape new bytes (Err Device) within is = record {
  ok = tt;
  err = (take kept bytes, (drop kept bytes, sym (take-append-drop kept bytes)), ap (λ (k : TapeValue). k.bytes) is);
  images = λ no. append_leaves tape new (take kept bytes) within (ap (λ (k : TapeValue). k.bytes) is) (ap (λ (k : TapeValue). k.synced) is);
  memory = λ e. absurd (cc e);
  time = time_changed tape new (ap (λ (k : TapeValue). k.past) is);
  inside = inside_changed tape new (ap (λ (k : TapeValue). k.past) is);
  cause = cause_device tape.failures new.failures (ap (λ (k : TapeValue). k.failures) is);
}
append_is (Some kept) tape new bytes (Err Memory) within is = append_short tape new bytes is

pub appends : {A : Type 0} (old new : TapeValue) (bytes : List ℕ) (result : Result A TapeFault) → old.synced ≤ length old.bytes → IsCalled (Append bytes) old (error_of result) new → IsAppend old new bytes result
unfolding IsCalled
appends old new bytes result within called =
    let is = append_is (burn old.fuse) (counted old) new bytes result within called in
    record { ok = is.ok; err = is.err; images = is.images; memory = is.memory; time = is.time; inside = is.inside; cause = is.cause }

-- ---- syncing

-- nothing was synced, or it was already
sync_stays : {A : Type 0} (tape left new : TapeValue) (result : Result A TapeFault) → new ≡ left → left.bytes ≡ tape.bytes → left.synced ≡ tape.synced → OnOk result (tape.synced ≡ length tape.bytes) →
    Elapses (moment_of tape) (moment_of new) (IsLeftSince tape) (IsLeftSince new) → LeavesNoOther (IsImageNow tape) (IsLeftSince new (moment_of tape)) → HasCause tape.failures new.failures result → IsSync tape new result
sync_stays tape left new result is bytes synced all time inside cause =
    let same_bytes : new.bytes ≡ tape.bytes = ap (λ (k : TapeValue). k.bytes) is ∙ bytes in
    let same_synced : new.synced ≡ tape.synced = ap (λ (k : TapeValue). k.synced) is ∙ synced in
    record {
      ok = on_ok_weaker result (λ whole. only_synced new (same_synced ∙ whole ∙ ap length (sym same_bytes))) all;
      same = same_bytes;
      images = (unchanged tape new same_bytes same_synced).no_other;
      time = time;
      inside = inside;
      cause = cause;
    }

-- A sync that had something to do notes the state before it; otherwise it changes nothing.
sync_done : {A : Type 0} (tape new : TapeValue) (x : A) (some : Bool) → nat_lt tape.synced (length tape.bytes) ≡ some → tape.synced ≤ length tape.bytes → new ≡ settled tape → IsSync {A = A} tape new (Ok x)
sync_done tape new x true e within is =
    let bytes : new.bytes ≡ tape.bytes = ap (λ (k : TapeValue). k.bytes) is in
    let all : new.synced ≡ length new.bytes = ap (λ (k : TapeValue). k.synced) is ∙ ap length (sym bytes) in
    let ended : new.past ≡ state_of tape ∷ tape.past = ap (λ (k : TapeValue). k.past) is ∙ ap (λ (b : Bool). if b then state_of tape ∷ tape.past else tape.past) e in
    record {
      ok = only_synced new all;
      same = bytes;
      images = sync_leaves tape new bytes all;
      time = time_changed tape new ended;
      inside = inside_synced tape new ended bytes all;
      cause = cause_ok tape.failures new.failures x (ap (λ (k : TapeValue). k.failures) is);
    }
sync_done tape new x false e within is =
    let all : tape.synced ≡ length tape.bytes = all_synced tape.synced (length tape.bytes) within e in
    let same : new ≡ tape = is ∙ sym (settled_same tape all e) in
    sync_stays tape tape new (Ok x) same refl refl all (time_same tape new same) (inside_same tape new same) (cause_ok tape.failures new.failures x (ap (λ (k : TapeValue). k.failures) same))

sync_is : {A : Type 0} (at : Option ℕ) (tape new : TapeValue) (result : Result A TapeFault) → OnOk result (tape.synced ≤ length tape.bytes) → IsLeftByCall Sync at tape (error_of result) new → IsSync tape new result
sync_is None tape new (Ok x) within is = sync_done tape new x (nat_lt tape.synced (length tape.bytes)) refl within is
sync_is None tape new (Err Device) within left = absurd left
sync_is None tape new (Err Memory) within is =
    sync_stays tape tape new (Err Memory) is refl refl tt (time_same tape new is) (inside_same tape new is) (cause_memory tape.failures new.failures (ap (λ (k : TapeValue). k.failures) is))
sync_is (Some kept) tape new (Ok x) within left = absurd left
sync_is (Some kept) tape new (Err Device) within is =
    sync_stays tape (failed_once tape) new (Err Device) is refl refl tt (time_same (failed_once tape) new is) (inside_same (failed_once tape) new is) (cause_device tape.failures new.failures (ap (λ (k : TapeValue). k.failures) is))
sync_is (Some kept) tape new (Err Memory) within is =
    sync_stays tape tape new (Err Memory) is refl refl tt (time_same tape new is) (inside_same tape new is) (cause_memory tape.failures new.failures (ap (λ (k : TapeValue). k.failures) is))

pub syncs : {A : Type 0} (old new : TapeValue) (result : Result A TapeFault) → OnOk result (old.synced ≤ length old.bytes) → IsCalled Sync old (error_of result) new → IsSync old new result
unfolding IsCalled
syncs old new result within called =
    let is = sync_is (burn old.fuse) (counted old) new result within called in
    record { ok = is.ok; same = is.same; images = is.images; time = is.time; inside = is.inside; cause = is.cause }

-- ---- replacing

replace_short : {A : Type 0} (tape new : TapeValue) (bytes : List ℕ) → new ≡ tape → IsReplace {A = A} tape new bytes (Err Memory)
replace_short tape new bytes is =
    let same = unchanged tape new (ap (λ (k : TapeValue). k.bytes) is) (ap (λ (k : TapeValue). k.synced) is) in
    record {
      ok = tt;
      synced = tt;
      err = inl same.content;
      images = λ image left. inl (same.no_other image left);
      memory = λ e. same;
      time = time_same tape new is;
      inside = λ image left. inl (inside_same tape new is image left);
      cause = cause_memory tape.failures new.failures (ap (λ (k : TapeValue). k.failures) is);
    }

-- the new content is there, and all of it is synced
put_synced : (tape new : TapeValue) (bytes : List ℕ) → new.bytes ≡ bytes → new.synced ≡ length bytes → new.past ≡ state_of tape ∷ tape.past → IsOnlyImage bytes (IsImageNow new) × LeavesOldOr bytes (IsImageNow tape) (IsLeftSince new (moment_of tape))
put_synced tape new bytes content synced ended =
    let all : new.synced ≡ length new.bytes = synced ∙ ap length (sym content) in (
      subst (λ (t : List ℕ). IsOnlyImage t (IsImageNow new)) content (only_synced new all),
      subst (λ (t : List ℕ). LeavesOldOr t (IsImageNow tape) (IsLeftSince new (moment_of tape))) content (inside_replaced tape new ended all),
    )

-- The replacement failed: nothing was replaced, or all.
replace_cut : {A : Type 0} (kept : ℕ) (tape new : TapeValue) (bytes : List ℕ) → new ≡ failed_once (cut_short kept (Replace bytes) tape) → IsReplace {A = A} tape new bytes (Err Device)
replace_cut zero tape new bytes is =
    let same = unchanged tape new (ap (λ (k : TapeValue). k.bytes) is) (ap (λ (k : TapeValue). k.synced) is) in
    record {
      ok = tt;
      synced = tt;
      err = inl same.content;
      images = λ image left. inl (same.no_other image left);
      memory = λ e. absurd (cc e);
      time = time_same (failed_once tape) new is;
      inside = λ image left. inl (inside_same (failed_once tape) new is image left);
      cause = cause_device tape.failures new.failures (ap (λ (k : TapeValue). k.failures) is);
    }
replace_cut (suc kept) tape new bytes is =
    let ended : new.past ≡ state_of tape ∷ tape.past = ap (λ (k : TapeValue). k.past) is in
    let put = put_synced tape new bytes (ap (λ (k : TapeValue). k.bytes) is) (ap (λ (k : TapeValue). k.synced) is) ended in
    record {
      ok = tt;
      synced = tt;
      err = inr (ap (λ (k : TapeValue). k.bytes) is);
      images = λ image left. inr (put.0.no_other image left);
      memory = λ e. absurd (cc e);
      time = time_changed tape new ended;
      inside = put.1;
      cause = cause_device tape.failures new.failures (ap (λ (k : TapeValue). k.failures) is);
    }

replace_is : {A : Type 0} (at : Option ℕ) (tape new : TapeValue) (bytes : List ℕ) (result : Result A TapeFault) → IsLeftByCall (Replace bytes) at tape (error_of result) new → IsReplace tape new bytes result
replace_is None tape new bytes (Ok x) is =
    let ended : new.past ≡ state_of tape ∷ tape.past = ap (λ (k : TapeValue). k.past) is in
    let put = put_synced tape new bytes (ap (λ (k : TapeValue). k.bytes) is) (ap (λ (k : TapeValue). k.synced) is) ended in
    record {
      ok = ap (λ (k : TapeValue). k.bytes) is;
      synced = put.0;
      err = tt;
      images = tt;
      memory = λ e. absurd (cc e);
      time = time_changed tape new ended;
      inside = put.1;
      cause = cause_ok tape.failures new.failures x (ap (λ (k : TapeValue). k.failures) is);
    }
replace_is None tape new bytes (Err Device) left = absurd left
replace_is None tape new bytes (Err Memory) is = replace_short tape new bytes is
replace_is (Some kept) tape new bytes (Ok x) left = absurd left
replace_is (Some kept) tape new bytes (Err Device) is = replace_cut kept tape new bytes is
replace_is (Some kept) tape new bytes (Err Memory) is = replace_short tape new bytes is

pub replaces : {A : Type 0} (old new : TapeValue) (bytes : List ℕ) (result : Result A TapeFault) → IsCalled (Replace bytes) old (error_of result) new → IsReplace old new bytes result
unfolding IsCalled
replaces old new bytes result called =
    let is = replace_is (burn old.fuse) (counted old) new bytes result called in
    record { ok = is.ok; synced = is.synced; err = is.err; images = is.images; memory = is.memory; time = is.time; inside = is.inside; cause = is.cause }

-- ---- what is returned

-- the content is an image, also where it is read
pub content_read : {A : Type 0} (old : TapeValue) (result : Result A TapeFault) → OnOk result (IsImageNow old old.bytes)
content_read old (Ok x) = content_is_image old
content_read old (Err fault) = tt

-- allocation didn't fail where the device did
pub not_memory : {A : Type 0} (result : Result A TapeFault) → IfErr result (λ fault. fault ≡ Device) → IsNotMemory result
not_memory (Ok x) device e = absurd (cc e)
not_memory (Err fault) device e = absurd (cc (device, e))
