-- The sequences so far have the same definitions.
use Rattle.std.proofs.Common.{◌≡◌, ℕ, ◌<◌, ◌≤◌}
use Rattle.wf_model.specs.DurableState.{definition_at}
use Rattle.wf_node.proofs.comparison.begins_with.Given as goal

abbrev pub invariant-loop-number : goal.invariant-loop-number
invariant-loop-number l = (s : ℕ) → 1 ≤ s → s < l.number → definition_at l.history.definitions s ≡ definition_at l.other.definitions s
