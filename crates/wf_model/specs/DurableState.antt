-- A node's tape: records, and the state that they fold to.
use Rattle.std.specs.Prelude.{◌≡◌, ℕ, zero, suc, ◌+◌, Bool, true, List, [], ◌∷◌, ◌++◌, length, slice_get, Option, Some, None, ◌==◌, nat_lt, if◌then◌else◌}
use Rattle.wf_ballot.specs.Ballot.{Ballot, below}
use Rattle.wf_model.specs.Message.{Vote}

-- one record on the tape
pub data Record (V : Type 0) : Type 0 where
  Tried : (round : ℕ) → Record V
  Promised : (sequence : ℕ) (ballot : Ballot) → Record V
  Accepted : (sequence : ℕ) (ballot : Ballot) (definition : V) → Record V
  Published : (sequence : ℕ) (definition : V) → Record V

-- The state of a tape: the last round that the node tried, its promise, which is one for all
-- sequences, its vote at each sequence, and the published definitions, sequence 1 first.
pub record DurableState (V : Type 0) : Type 0 where
  pub tried : ℕ
  pub promise : Option Ballot
  pub votes : ℕ → Option (Vote V)
  pub history : List V

-- a node that has stored nothing yet
unfoldable pub nothing_stored : {V : Type 0} → DurableState V
nothing_stored = record { tried = 0; promise = None; votes = λ s. None; history = [] }

-- the number of published definitions, and the next sequence
unfoldable pub published : {V : Type 0} → DurableState V → ℕ
published stored = length stored.history

unfoldable pub next_sequence : {V : Type 0} → DurableState V → ℕ
next_sequence stored = published stored + 1

-- the stored state has this round tried and this sequence published
pub record HasStored {V : Type 0} (stored : DurableState V) (round sequence : ℕ) : Type 0 where
  pub tried : stored.tried ≡ round
  pub up_to : published stored ≡ sequence

-- the published definition of a sequence, counted from 1
unfoldable pub definition_at : {V : Type 0} → List V → ℕ → Option V
definition_at history zero = None
definition_at history (suc k) = slice_get history k

-- the function that is x at s, and unchanged elsewhere
unfoldable pub put : {A : Type 0} → (ℕ → Option A) → ℕ → Option A → ℕ → Option A
put f s x t = if t == s then x else f t

-- the promise, raised to the ballot if that is above it
unfoldable pub raised : Option Ballot → Ballot → Option Ballot
raised None b = Some b
raised (Some promise) b = if below promise b then Some b else Some promise

-- The state after one more record. Tried sets the round, Promised raises the promise, Accepted
-- raises the promise and sets the vote. Published appends, and removes the vote; the promise stays.
-- An Accepted of a published sequence changes nothing.
unfoldable pub with_record : {V : Type 0} → DurableState V → Record V → DurableState V
with_record stored (Tried r) = record stored { tried = r }
with_record stored (Promised s b) = record stored { promise = raised stored.promise b }
with_record stored (Accepted s b d) =
    if nat_lt (published stored) s
    then record stored { promise = raised stored.promise b; votes = put stored.votes s (Some (record { ballot = b; definition = d })) }
    else stored
with_record stored (Published s d) = record stored { votes = put stored.votes s None; history = stored.history ++ d ∷ [] }

-- A record fits unless it is a Published of another sequence than the next.
unfoldable pub fits : {V : Type 0} → DurableState V → Record V → Bool
fits stored (Tried r) = true
fits stored (Promised s b) = true
fits stored (Accepted s b d) = true
fits stored (Published s d) = s == next_sequence stored

-- the state after these records, oldest first, None if one of them doesn't fit
unfoldable pub fold_from : {V : Type 0} → DurableState V → List (Record V) → Option (DurableState V)
fold_from stored [] = Some stored
fold_from stored (r ∷ rest) = if fits stored r then fold_from (with_record stored r) rest else None

unfoldable pub fold : {V : Type 0} → List (Record V) → Option (DurableState V)
fold records = fold_from nothing_stored records
