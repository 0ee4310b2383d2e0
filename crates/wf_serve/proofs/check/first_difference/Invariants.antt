-- The histories agree up to this number.
use Rattle.std.proofs.Common.{◌≤◌, ℕ}
use Rattle.wf_serve.specs.Difference.{AgreeAt}
use Rattle.wf_serve.proofs.check.first_difference.Given as goal

abbrev pub invariant-loop-number : goal.invariant-loop-number
invariant-loop-number l = (s : ℕ) → s ≤ l.number → AgreeAt l.first.definitions l.second.definitions s
