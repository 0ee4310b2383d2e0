-- Who sends what: the nodes of a farm of n are 0 to n - 1, and no other number answers.
use Rattle.std.specs.Prelude.{ℕ, ◌<◌, Bool, List, Option}
use Rattle.wf_ballot.specs.Ballot.{Ballot}
use Rattle.wf_model.specs.Chosen.{IsIn, Reported}
use Rattle.wf_model.specs.Message.{Accepted, Promise, Vote}
use Rattle.wf_model.specs.World.{Event, World, after}

-- whoever promised, reported a vote or none, or voted is a node
pub record AreSentByNodes {V : Type 0} (n : ℕ) (w : World V) : Type 0 where
  pub promised : (i s : ℕ) (b : Ballot) (votes : List (Option (Vote V))) → IsIn (Promise i s b votes) w.sent → i < n
  pub reports : (i base s : ℕ) (b : Ballot) (vote : Option (Vote V)) → Reported w.sent base s b vote i → i < n
  pub voted : (i s : ℕ) (b : Ballot) → IsIn (Accepted i s b) w.sent → i < n

-- in each run, from the start on
abbrev pub OnlyNodesAnswer : Type 0 → Type 0
OnlyNodesAnswer V = (same : V → V → Bool) (n : ℕ) (events : List (Event V)) → AreSentByNodes n (after same n events)
