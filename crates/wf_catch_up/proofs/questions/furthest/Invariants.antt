-- Of the nodes so far none has come further.
use Rattle.std.proofs.Common.{ℕ, ◌<◌, ◌≤◌, length}
use Rattle.wf_catch_up.proofs.Common.{rank_at, nodes_of}
use Rattle.wf_catch_up.proofs.questions.furthest.Given as goal

abbrev pub invariant-loop-number : goal.invariant-loop-number
invariant-loop-number g l = record {
  within : l.most < length l.fn.hosts;
  most : (k : ℕ) → k < l.number → rank_at (nodes_of l.fn.hosts) k ≤ rank_at (nodes_of l.fn.hosts) l.most;
}
