-- Each record before this one can be the node's.
use Rattle.std.proofs.Common.{◌≡◌, ◌<◌, ℕ, map}
use Rattle.std.specs.Prelude.{Some, slice_get}
use Rattle.wf_def.specs.Definition.{Definition}
use Rattle.wf_journal.specs.Record.{view}
use Rattle.wf_model.specs.DurableState.{Record}
use Rattle.wf_node_folder.specs.From.{CanBeOf}
use Rattle.wf_node_folder.proofs.from.first_untried.Given as goal

abbrev pub invariant-loop-entry : goal.invariant-loop-entry
invariant-loop-entry l = (k : ℕ) (r : Record Definition) → k < l.entry-index → slice_get (map view l.records) k ≡ Some r → CanBeOf l.id l.tried r
