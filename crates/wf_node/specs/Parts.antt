-- The durable state of a node as data: a model can't contain a function, so the votes are a map.
use Rattle.std.specs.Prelude.{ℕ, List, Option}
use Rattle.std.specs.Ordering.{nat_cmp}
use Rattle.std.specs.FinMap as map
use Rattle.std.specs.FinMap.{FinMap}
use Rattle.wf_ballot.specs.Ballot.{Ballot}
use Rattle.wf_codec.specs.Message.{view_vote}
use Rattle.wf_def.specs.Definition.{Definition}
use Rattle.wf_model.specs.DurableState.{DurableState}

-- the round tried, the promise, which is one for all sequences, the vote at each sequence, and the
-- published definitions
pub record Parts : Type 0 where
  pub tried : ℕ
  pub promise : Option Ballot
  pub votes : FinMap nat_cmp (Ballot × Definition)
  pub history : List Definition

-- the same as in wf_model
abbrev pub stored_of : Parts → DurableState Definition
stored_of parts =
    record {
      tried = parts.tried;
      promise = parts.promise;
      votes = λ s. view_vote (map.get parts.votes s);
      history = parts.history;
    }
