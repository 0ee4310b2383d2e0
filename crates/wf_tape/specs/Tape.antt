-- A tape's content, its images, and the effect of each call on both. An image is a content that a
-- crash now may leave.
use Rattle.std.specs.Prelude.{◌≡◌, ◌⊎◌, ◌≤◌, ℕ, List, ◌++◌, Option, Some, None, Result, Ok, Err, IsErrOf}
pub use Rattle.wf_disk.specs.Moments.{IsPrefixOf, LeavesNoOther, LeavesOldOr, LeavesOldOrNew, Elapses, LeavesNow, AreNested, last_count, HasRisen}
use Rattle.wf_tape.specs.declared.fault.TapeFault.{TapeFault}
use Rattle.wf_tape.specs.declared.fault.TapeFault.TheVariants.{Device, Memory}

-- the content is the only image
pub record IsOnlyImage (content : List ℕ) (images : List ℕ → Type 0) : Type 0 where
  pub is_image : images content
  pub no_other : (image : List ℕ) → images image → image ≡ content

-- the content and its images are unchanged
pub record IsUnchanged (old_content new_content : List ℕ) (old new : List ℕ → Type 0) : Type 0 where
  pub content : new_content ≡ old_content
  pub kept : (image : List ℕ) → old image → new image
  pub no_other : LeavesNoOther old new

-- the old content followed by a prefix of the bytes
abbrev pub IsExtended : List ℕ → List ℕ → List ℕ → Type 0
IsExtended old bytes new = (front : List ℕ) × IsPrefixOf front bytes × (new ≡ old ++ front)

-- Each image is a prefix of the content and begins with an image from before: so it contains all
-- that was synced.
abbrev pub IsCutShort : List ℕ → (List ℕ → Type 0) → (List ℕ → Type 0) → Type 0
IsCutShort content old new = (image : List ℕ) → new image →
    IsPrefixOf image content × ((earlier : List ℕ) × old earlier × IsPrefixOf earlier image)

-- Each image is one from before, or a prefix of the content that begins with one from before: so it
-- contains all that was synced.
abbrev pub LeavesOldOrCut : List ℕ → (List ℕ → Type 0) → (List ℕ → Type 0) → Type 0
LeavesOldOrCut content old new = (image : List ℕ) → new image → old image ⊎ (IsPrefixOf image content × ((earlier : List ℕ) × old earlier × IsPrefixOf earlier image))

-- the device's failures are counted: its error is returned only if it failed in that call
pub record HasCause {A : Type 0} (before now : ℕ) (result : Result A TapeFault) : Type 0 where
  pub later : before ≤ now
  pub device : IsErrOf result Device → HasRisen before now

-- allocation didn't fail
abbrev pub IsNotMemory : {A : Type 0} → Result A TapeFault → Type 0
IsNotMemory result = IsErrOf result Memory → ⊥

-- a call of a tape
pub data Call : Type 0 where
  Read : Call
  Append : (bytes : List ℕ) → Call
  Sync : Call
  Replace : (bytes : List ℕ) → Call

-- the error that was returned, if one was
abbrev pub error_of : {A : Type 0} → Result A TapeFault → Option TapeFault
error_of (Ok x) = None
error_of (Err fault) = Some fault
