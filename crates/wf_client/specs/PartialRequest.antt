-- What has come of a request.
use Rattle.std.specs.Prelude.{◌≡◌, ◌≤◌, ◌⊎◌, ℕ, Bool, List, length, true}

-- the bytes that have come, the number that it needs at least, and whether no more will come
pub record Incoming : Type 0 where
  pub bytes : List ℕ
  pub needed : ℕ
  pub is_closed : Bool

-- as many bytes as are needed have come, or no more will
abbrev pub MayBeWhole : Incoming → Type 0
MayBeWhole i = (i.is_closed ≡ true) ⊎ (i.needed ≤ length i.bytes)
