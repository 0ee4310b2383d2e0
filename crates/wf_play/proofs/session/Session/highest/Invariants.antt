-- No node publishes more than the last sequence.
use Rattle.std.proofs.Common.{◌≤◌}
use Rattle.wf_ballot.specs.Sequence.{last_sequence}
use Rattle.wf_play.proofs.session.Session.highest.Given as goal

abbrev pub invariant-loop-number : goal.invariant-loop-number
invariant-loop-number l = l.highest ≤ last_sequence
