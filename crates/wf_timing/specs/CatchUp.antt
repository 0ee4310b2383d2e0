-- Whose turn it is to be asked, and when.
use Rattle.std.specs.Prelude.{◌≡◌, ℕ, ◌+◌, ◌<◌, ◌≤◌, ◌⊎◌, Bool, true, false, nat_le, List, slice_index_or, Option, Some, None, if◌then◌else◌}
use Rattle.wf_timing.specs.declared.catch_up.CatchUp.{CatchUp}
use Rattle.wf_timing.specs.declared.catch_up.PendingQuestion.{PendingQuestion}
use Rattle.wf_timing.specs.Moment.{later, second}

-- the number of definitions in a whole answer
abbrev pub whole_answer : ℕ
whole_answer = 8

-- a whole answer to the question was published
abbrev pub is_brought_on : Option PendingQuestion → ℕ → Bool
is_brought_on None published = false
is_brought_on (Some question) published = nat_le (question.published + whole_answer) published

-- the first peer whose turn it may be: after a whole answer that of the last question
abbrev pub turn_in : Option PendingQuestion → (next published : ℕ) → ℕ
turn_in None next published = next
turn_in (Some question) next published = if nat_le (question.published + whole_answer) published then question.peer else next

abbrev pub turn_of : CatchUp → ℕ → ℕ
turn_of c published = turn_in c.question c.next published

-- a peer is to be asked: a whole answer came, or it is due
abbrev pub IsTime : CatchUp → (now published : ℕ) → Type 0
IsTime c now published = (is_brought_on c.question published ≡ true) ⊎ (c.due ≤ now)

-- ---- who is connected

abbrev pub IsFlagSet : List Bool → ℕ → Type 0
IsFlagSet flags i = slice_index_or flags i false ≡ true

-- no flag from an index on is set
abbrev pub NoneFrom : List Bool → ℕ → Type 0
NoneFrom flags from = (i : ℕ) → from ≤ i → ¬ IsFlagSet flags i

abbrev pub NoneIsSet : List Bool → Type 0
NoneIsSet flags = (i : ℕ) → ¬ IsFlagSet flags i

-- the first flag from an index on that is set
pub record IsFirstFlag (flags : List Bool) (from index : ℕ) : Type 0 where
  pub from_there : from ≤ index
  pub set : IsFlagSet flags index
  pub first : (i : ℕ) → from ≤ i → i < index → ¬ IsFlagSet flags i

-- it is the first from there on, or, where none is, the first of all
abbrev pub IsFirstFrom : List Bool → (from index : ℕ) → Type 0
IsFirstFrom flags from index = IsFirstFlag flags from index ⊎ (NoneFrom flags from × IsFirstFlag flags 0 index)

-- ---- a question

-- It is time, and this peer is asked: the first one connected from the one on whose turn it is. The
-- next turn is that of the one after it, a second later.
pub record IsAskedOf (old : CatchUp) (now published : ℕ) (connected : List Bool) (asked : ℕ) (new : CatchUp) : Type 0 where
  pub time : IsTime old now published
  pub turn : IsFirstFrom connected (turn_of old published) asked
  pub after : new.next ≡ asked + 1
  pub due : new.due ≡ later now second
  pub question : new.question ≡ Some (record { peer = asked; published = published })

-- nobody is asked, and nothing changes: it isn't time, or nobody is connected
pub record IsNotAsked (old : CatchUp) (now published : ℕ) (connected : List Bool) (new : CatchUp) : Type 0 where
  pub cause : (¬ IsTime old now published) ⊎ NoneIsSet connected
  pub unchanged : new ≡ old
