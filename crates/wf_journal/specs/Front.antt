-- A record at the front of bytes. Used only in this crate's contracts.
use Rattle.std.specs.Prelude.{◌≡◌, ℕ, ◌<◌, ◌≤◌, List, [], ◌∷◌, ◌++◌, length, take, drop}
use Rattle.wf_model.specs.DurableState.{Record}
use Rattle.wf_def.specs.Definition.{Definition}
use Rattle.wf_journal.specs.Encoding.{Encodes}
use Rattle.wf_journal.specs.Records.{IsTapeOf}

-- the first k bytes, at least one, encode the record
pub record BeginsWith (bytes : List ℕ) (r : Record Definition) (k : ℕ) : Type 0 where
  pub not_empty : 0 < k
  pub within : k ≤ length bytes
  pub encodes : Encodes r (take k bytes)

-- the record at the front of the bytes, n bytes long, is appended to the list
pub record TakesOne (bytes : List ℕ) (n : ℕ) (old new : List (Record Definition)) : Type 0 where
  pub taken : Record Definition
  pub begins : BeginsWith bytes taken n
  pub one_more : new ≡ old ++ taken ∷ []

-- the first n bytes are the records
pub record HasRead (bytes : List ℕ) (records : List (Record Definition)) (n : ℕ) : Type 0 where
  pub within : n ≤ length bytes
  pub is_tape : IsTapeOf bytes records (drop n bytes)
