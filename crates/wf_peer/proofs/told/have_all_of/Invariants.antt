use Rattle.std.proofs.Common.{ℕ, ◌<◌}
use Rattle.wf_peer.specs.Sender.{heard_of}
use Rattle.wf_peer.specs.Told.{IsPast}
use Rattle.wf_peer.proofs.told.have_all_of.Given as goal

abbrev pub invariant-loop-index : goal.invariant-loop-index
invariant-loop-index l = (i : ℕ) → i < l.index → IsPast (heard_of l.fn.earlier i) (heard_of l.fn.later i)
