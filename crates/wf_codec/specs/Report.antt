-- The votes that a Promise reports.
use Rattle.std.specs.Prelude.{ℕ, List, Option}
use Rattle.wf_ballot.specs.Ballot.{Ballot}
use Rattle.wf_def.specs.Definition.{Definition}

-- the slot of the first of them, and the votes at that slot and those after it
pub record Report : Type 0 where
  pub slot : ℕ
  pub votes : List (Option (Ballot × Definition))
