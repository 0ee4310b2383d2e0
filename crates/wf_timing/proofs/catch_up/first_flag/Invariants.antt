-- No flag before this one, from the index on, is set.
use Rattle.std.proofs.Common.{◌≤◌, ◌<◌, ℕ}
use Rattle.wf_timing.specs.CatchUp.{IsFlagSet}
use Rattle.wf_timing.proofs.catch_up.first_flag.Given as goal

abbrev pub invariant-loop-index : goal.invariant-loop-index
invariant-loop-index l = (i : ℕ) → l.from ≤ i → i < l.index → ¬ IsFlagSet l.flags i
