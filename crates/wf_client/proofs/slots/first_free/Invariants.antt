-- No slot before this one is free.
use Rattle.std.proofs.Common.{◌<◌, ℕ}
use Rattle.wf_client.specs.Slots.{IsFree}
use Rattle.wf_client.proofs.slots.first_free.Given as goal

abbrev pub invariant-loop-index : goal.invariant-loop-index
invariant-loop-index l = (k : ℕ) → k < l.index → ¬ IsFree l.slots k
