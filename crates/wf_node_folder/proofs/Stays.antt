-- The calls of a folder while its node is served.
use Rattle.std.proofs.Common.{◌≡◌, ◌∙◌, inl, inr, ℕ, Bool, true, false, List, [], ◌∷◌, ap, refl, subst}
use Rattle.std.proofs.Math.Logic.{∥∥₁_map}
use Rattle.std.specs.Prelude.{if◌then◌else◌, Option, Some, Result, Ok, Err, IfOk, OnErr, OnOk, Vec}
use Rattle.std.specs.declared.alloc.Global.{Global}
use Rattle.wf_folder.specs.declared.presence.Presence.{Presence}
use Rattle.wf_node_folder.specs.FarmPut.{IsOwnFarm}
use Rattle.wf_node_folder.specs.Folder.{StaysFrom, heard_in, is_of_tape, is_own, needs_own, of_tapes, tape_changes}
use Rattle.wf_node_folder.specs.Joined.{IsJoinedSoundly, MayBePutAt}
use Rattle.wf_store.specs.Call.{Call, bytes_of, changes, compared, failed, is_change, opened_existing, read, replaced, seen, unreplaced}
use Rattle.wf_store.specs.Texts.{IsTextPut, MayBeIn, TextsStay, is_heard, is_tape, text_in}
use Rattle.wf_store.specs.declared.fault.FolderFault.{FolderFault}
use Rattle.wf_store.specs.declared.file_name.FileName.{FileName}

-- nothing was called yet
pub stays_still : (calls : List Call) → ∥ StaysFrom calls calls ∥₁
stays_still calls = ∣ record { after = record { later = []; is = refl }; tapes = refl; guarded = tt; joined = tt } ∣₁

-- ---- one call more

-- one that is of no tape leaves the changes of tapes
beside_tapes : (call : Call) (earlier : List Call) → is_of_tape call.kind ≡ false → of_tapes (call ∷ earlier) ≡ of_tapes earlier
beside_tapes call earlier other = ap (λ (b : Bool). if b then call ∷ of_tapes earlier else of_tapes earlier) other

beside_changes : (call : Call) (earlier : List Call) (b : Bool) → is_of_tape call.kind ≡ false → of_tapes (if b then call ∷ earlier else earlier) ≡ of_tapes earlier
beside_changes call earlier true other = beside_tapes call earlier other
beside_changes call earlier false other = refl

module _ (begun old new : List Call) (stays : ∥ StaysFrom begun old ∥₁) where
  stays_one : (call : Call) → new ≡ call ∷ old → is_of_tape call.kind ≡ false → (needs_own call.kind ≡ true → is_own old ≡ true) → IsJoinedSoundly call.kind call.bytes old
      → ∥ StaysFrom begun new ∥₁
  stays_one call is other own sound = ∥∥₁_map stays (λ was. record {
    after = record { later = call ∷ was.after.later; is = is ∙ ap (λ (calls : List Call). call ∷ calls) was.after.is };
    tapes = ap tape_changes is ∙ beside_changes call (changes old) (is_change call.kind) other ∙ was.tapes;
    guarded = (λ needs. subst (λ (calls : List Call). is_own calls ≡ true) was.after.is (own needs), was.guarded);
    joined = (subst (IsJoinedSoundly call.kind call.bytes) was.after.is sound, was.joined);
  })

  -- whether the folder is the one that is locked was looked at
  pub stays_comparing : (result : Result Bool FolderFault) → IfOk result (λ same. new ≡ compared same ∷ old) → OnErr result (new ≡ failed ∷ old) → ∥ StaysFrom begun new ∥₁
  stays_comparing (Ok same) done wrong = stays_one (compared same) done refl (λ needs. absurd cc) tt
  stays_comparing (Err fault) done wrong = stays_one failed wrong refl (λ needs. absurd cc) tt

  -- a file was read
  pub stays_reading : (file : FileName) (result : Result (Option (Vec ℕ Global)) FolderFault) → IfOk result (λ found. new ≡ read file (bytes_of found) ∷ old) → OnErr result (new ≡ failed ∷ old)
      → ∥ StaysFrom begun new ∥₁
  stays_reading file (Ok found) done wrong = stays_one (read file (bytes_of found)) done refl (λ needs. absurd cc) tt
  stays_reading file (Err fault) done wrong = stays_one failed wrong refl (λ needs. absurd cc) tt

  -- whether a file is there was looked at
  pub stays_seeing : (file : FileName) (result : Result Presence FolderFault) → IfOk result (λ there. new ≡ seen file there ∷ old) → OnErr result (new ≡ failed ∷ old) → ∥ StaysFrom begun new ∥₁
  stays_seeing file (Ok there) done wrong = stays_one (seen file there) done refl (λ needs. absurd cc) tt
  stays_seeing file (Err fault) done wrong = stays_one failed wrong refl (λ needs. absurd cc) tt

  -- a file was opened, which was there
  pub stays_opening : {A : Type 0} (file : FileName) (result : Result A FolderFault) → OnOk result (new ≡ opened_existing file ∷ old) → OnErr result (new ≡ failed ∷ old) → is_tape file ≡ true → is_own old ≡ true
      → IsOwnFarm old → ∥ StaysFrom begun new ∥₁
  stays_opening file (Ok tape) done wrong is own farm = stays_one (opened_existing file) done refl (λ needs. own) (record { tape = is; own = farm })
  stays_opening file (Err fault) done wrong is own farm = stays_one failed wrong refl (λ needs. absurd cc) tt

  -- a file that is no tape was replaced
  pub stays_replacing : (file : FileName) (bytes : List ℕ) (result : Result (Unit {0}) FolderFault) → OnOk result (new ≡ replaced file bytes ∷ old) → OnErr result (new ≡ unreplaced file bytes ∷ old)
      → is_tape file ≡ false → is_own old ≡ true → MayBePutAt file bytes old → ∥ StaysFrom begun new ∥₁
  stays_replacing file bytes (Ok done) written wrong other own may = stays_one (replaced file bytes) written other (λ needs. own) (record { text = bytes; may = may; is = refl })
  stays_replacing file bytes (Err fault) written wrong other own may = stays_one (unreplaced file bytes) wrong other (λ needs. own) (record { text = bytes; may = may; is = refl })

-- ---- what is known of the folder then

module _ (old new : List Call) where
  pub own_compared : new ≡ compared true ∷ old → is_own new ≡ true
  own_compared is = ap is_own is

  -- calls that leave the file `heard` as it is
  pub texts_comparing : (result : Result Bool FolderFault) → IfOk result (λ same. new ≡ compared same ∷ old) → OnErr result (new ≡ failed ∷ old) → TextsStay old new
  texts_comparing (Ok same) done wrong is = ap (text_in is) done
  texts_comparing (Err fault) done wrong is = ap (text_in is) wrong

  pub heard_reading : (file : FileName) (result : Result (Option (Vec ℕ Global)) FolderFault) → is_heard file ≡ false → IfOk result (λ found. new ≡ read file (bytes_of found) ∷ old)
      → OnErr result (new ≡ failed ∷ old) → heard_in new ≡ heard_in old
  heard_reading file (Ok found) other done wrong = ap heard_in done ∙ ap (λ (b : Bool). if b then bytes_of found else heard_in old) other
  heard_reading file (Err fault) other done wrong = ap heard_in wrong

  pub heard_seeing : (file : FileName) (result : Result Presence FolderFault) → IfOk result (λ there. new ≡ seen file there ∷ old) → OnErr result (new ≡ failed ∷ old) → heard_in new ≡ heard_in old
  heard_seeing file (Ok there) done wrong = ap heard_in done
  heard_seeing file (Err fault) done wrong = ap heard_in wrong

  pub heard_opening : {A : Type 0} (file : FileName) (result : Result A FolderFault) → OnOk result (new ≡ opened_existing file ∷ old) → OnErr result (new ≡ failed ∷ old) → heard_in new ≡ heard_in old
  heard_opening file (Ok tape) done wrong = ap heard_in done
  heard_opening file (Err fault) done wrong = ap heard_in wrong

  -- a file was replaced; then the folder was looked at
  module _ (file : FileName) (text : List ℕ) (mid : List Call) (put : mid ≡ replaced file text ∷ old) (stay : TextsStay mid new) where
    pub was_put : IsTextPut file text old new
    was_put is = stay is ∙ ap (text_in is) put

    pub was_put_or_not : MayBeIn file text old new
    was_put_or_not is = inr (was_put is)

    pub heard_beside : is_heard file ≡ false → heard_in new ≡ heard_in old
    heard_beside other = was_put is_heard ∙ ap (λ (b : Bool). if b then Some text else heard_in old) other

  -- it was to be
  module _ (file : FileName) (text : List ℕ) (wrong : new ≡ unreplaced file text ∷ old) where
    pub was_not_put : MayBeIn file text old new
    was_not_put is = inl (ap (text_in is) wrong)

    pub heard_beside_not : is_heard file ≡ false → heard_in new ≡ heard_in old
    heard_beside_not other = ap heard_in wrong

  pub own_reading : (file : FileName) (result : Result (Option (Vec ℕ Global)) FolderFault) → IfOk result (λ found. new ≡ read file (bytes_of found) ∷ old) → OnErr result (new ≡ failed ∷ old)
      → is_own new ≡ is_own old
  own_reading file (Ok found) done wrong = ap is_own done
  own_reading file (Err fault) done wrong = ap is_own wrong

  pub own_seen : (file : FileName) (result : Result Presence FolderFault) → IfOk result (λ there. new ≡ seen file there ∷ old) → OnErr result (new ≡ failed ∷ old) → is_own new ≡ is_own old
  own_seen file (Ok there) done wrong = ap is_own done
  own_seen file (Err fault) done wrong = ap is_own wrong
