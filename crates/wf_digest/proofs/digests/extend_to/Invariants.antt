-- The digests so far are the history's, and there is room for the others.
use Rattle.std.proofs.Common.{ℕ, ◌+◌, ◌-◌, ◌≤◌, take, vec_len}
use Rattle.std.specs.Prelude.{vec_capacity}
use Rattle.wf_digest.specs.Digest.{AreDigestsOf}
use Rattle.wf_digest.proofs.digests.extend_to.Given as goal

abbrev pub invariant-loop-digests : goal.invariant-loop-digests
invariant-loop-digests l = record {
  some : 1 ≤ vec_len l.digests;
  room : vec_len l.digests + (l.count - vec_len l.digests) ≤ vec_capacity l.digests;
  value : (k : ℕ) → AreDigestsOf (take k l.history.definitions) l.initial.digests.items → AreDigestsOf (take (vec_len l.digests - 1) l.history.definitions) l.digests.items;
}

abbrev pub decreases-loop-digests : goal.decreases-loop-digests
decreases-loop-digests l = l.count - vec_len l.digests
