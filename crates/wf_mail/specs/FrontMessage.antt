-- A message at the front of bytes. Used only in this crate's contracts.
use Rattle.std.specs.Prelude.{◌≡◌, ℕ, List, [], ◌∷◌, ◌++◌, take, ◌≤◌, length}
use Rattle.wf_def.specs.Definition.{Definition}
use Rattle.wf_model.specs.Message.{Message}
use Rattle.wf_codec.specs.Encoding.{Spells}
use Rattle.wf_mail.specs.Stream.{IsUnfinishedPart}

-- the message at the front of the bytes, n bytes long, is appended to the list
pub record TakesOne (bytes : List ℕ) (n : ℕ) (old new : List (Message Definition)) : Type 0 where
  pub taken : Message Definition
  pub not_empty : 1 ≤ n
  pub within : n ≤ length bytes
  pub spells : Spells taken (take n bytes)
  pub one_more : new ≡ old ++ taken ∷ []

-- no message is there yet, and the list is unchanged
pub record TakesNone (bytes : List ℕ) (old new : List (Message Definition)) : Type 0 where
  pub part : IsUnfinishedPart bytes
  pub unchanged : new ≡ old
