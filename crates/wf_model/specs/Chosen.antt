-- What is voted, chosen and published in a world, by the messages that were sent and the nodes'
-- histories.
use Rattle.std.specs.Prelude.{◌≡◌, ◌⊎◌, ℕ, zero, suc, List, [], ◌∷◌, length, slice_get, Option, Some, None}
use Rattle.wf_ballot.specs.Ballot.{Ballot}
use Rattle.wf_ballot.specs.Majority.{Majority}
use Rattle.wf_model.specs.Message.{Vote, Message, Promise, Accept, Accepted}
use Rattle.wf_model.specs.World.{Node, World}

-- x is in the list
abbrev pub IsIn : {A : Type 0} → A → List A → Type 0
IsIn x [] = ⊥
IsIn x (y ∷ ys) = (x ≡ y) ⊎ IsIn x ys

-- Node i voted for d at the sequence and ballot: it sent Accepted, and an Accept for d was sent.
pub record Voted {V : Type 0} (sent : List (Message V)) (s : ℕ) (b : Ballot) (d : V) (i : ℕ) : Type 0 where
  pub stated : IsIn (Accepted i s b) sent
  pub asked : IsIn (Accept s b d) sent

-- A list of votes, that at `base` first, reports this for the sequence: a vote there, or that there
-- is none.
abbrev pub Reports : {V : Type 0} → ℕ → List (Option (Vote V)) → ℕ → Option (Vote V) → Type 0
Reports base [] s vote = ⊥
Reports base (first ∷ rest) s vote = ((s ≡ base) × (first ≡ vote)) ⊎ Reports (suc base) rest s vote

-- Node i promised at the ballot from `base` on, and reported this for the sequence: its vote there,
-- or that it has none.
pub record Reported {V : Type 0} (sent : List (Message V)) (base s : ℕ) (b : Ballot) (vote : Option (Vote V)) (i : ℕ) : Type 0 where
  pub votes : List (Option (Vote V))
  pub stated : IsIn (Promise i base b votes) sent
  pub reported : Reports base votes s vote

-- d is chosen for the sequence: at some ballot a majority of the n nodes voted for it.
pub record IsChosen {V : Type 0} (n : ℕ) (sent : List (Message V)) (s : ℕ) (d : V) : Type 0 where
  pub ballot : Ballot
  pub majority : Majority n (Voted sent s ballot d)

-- a node's published definitions, whether it runs or is stopped, and their number
unfoldable pub history_of : {V : Type 0} → Option (Node V) → List V
history_of None = []
history_of (Some node) = node.stored.history

unfoldable pub history : {V : Type 0} → World V → ℕ → List V
history w i = history_of (slice_get w.nodes i)

unfoldable pub published_by : {V : Type 0} → World V → ℕ → ℕ
published_by w i = length (history w i)

-- the definition of sequence s at node i: the empty map for 0, and None above what it published
unfoldable pub definition : {V : Type 0} → V → World V → ℕ → ℕ → Option V
definition empty w i zero = Some empty
definition empty w i (suc k) = slice_get (history w i) k
