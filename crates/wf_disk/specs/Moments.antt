-- What a crash may leave, as time goes on. An image is bytes that a crash may leave.
use Rattle.std.specs.Prelude.{◌≡◌, ◌⊎◌, ◌<◌, ◌≤◌, ℕ, List, ◌++◌}

-- the first bytes are a prefix of the second
abbrev pub IsPrefixOf : List ℕ → List ℕ → Type 0
IsPrefixOf front bytes = (rest : List ℕ) × (bytes ≡ front ++ rest)

-- each image was one before
abbrev pub LeavesNoOther : (List ℕ → Type 0) → (List ℕ → Type 0) → Type 0
LeavesNoOther old new = (image : List ℕ) → new image → old image

-- each image is one from before, or these bytes
abbrev pub LeavesOldOr : List ℕ → (List ℕ → Type 0) → (List ℕ → Type 0) → Type 0
LeavesOldOr bytes old new = (image : List ℕ) → new image → old image ⊎ (image ≡ bytes)

-- each image inside a call is one from before it or one from after it
abbrev pub LeavesOldOrNew : (List ℕ → Type 0) → (List ℕ → Type 0) → (List ℕ → Type 0) → Type 0
LeavesOldOrNew old new inside = (image : List ℕ) → inside image → old image ⊎ new image

-- Time goes on: `past` and `since` give, before and after a call, what a crash at a moment or a
-- later one could have left. Nothing of it is forgotten, and it grows by nothing but what a crash
-- could have left since the call began.
pub record Elapses (before now : ℕ) (past since : ℕ → List ℕ → Type 0) : Type 0 where
  pub later : before ≤ now
  pub kept : (moment : ℕ) (image : List ℕ) → moment ≤ before → past moment image → since moment image
  pub nothing_else : (moment : ℕ) (image : List ℕ) → moment ≤ before → since moment image → past moment image ⊎ since before image

-- what a crash since this moment could have left is what one may leave now
pub record LeavesNow (images since : List ℕ → Type 0) : Type 0 where
  pub counts : (image : List ℕ) → images image → since image
  pub nothing_else : (image : List ℕ) → since image → images image

-- what a crash since a later moment could have left, one since an earlier moment could have
abbrev pub AreNested : (ℕ → List ℕ → Type 0) → Type 0
AreNested since = (moment later : ℕ) (image : List ℕ) → moment ≤ later → since later image → since moment image

-- the highest count of failures, at which it saturates
abbrev pub last_count : ℕ
last_count = 18446744073709551615

-- the count of failures rose, or was at its highest
abbrev pub HasRisen : ℕ → ℕ → Type 0
HasRisen before now = (before < now) ⊎ (before ≡ last_count)
