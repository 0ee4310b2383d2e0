-- The highest answer of the nodes before this one.
use Rattle.std.proofs.Common.{◌≡◌}
use Rattle.wf_rejoin.specs.Joining.{highest_below, stage_of}
use Rattle.wf_rejoin.proofs.joining.highest_answer.Given as goal

abbrev pub invariant-loop-index : goal.invariant-loop-index
invariant-loop-index l = l.highest ≡ highest_below l.index (stage_of l.joining)
