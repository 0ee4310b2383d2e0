use Rattle.std.proofs.Common.{◌≡◌, ℕ, ◌<◌, length}
use Rattle.wf_peer.specs.Sender.{heard_of}
use Rattle.wf_peer.specs.Told.{IsHeardLeft}
use Rattle.wf_rejoin.specs.Replacements.{latest_of}
use Rattle.wf_peer.proofs.told.leave.Given as goal

abbrev pub invariant-loop-index : goal.invariant-loop-index
invariant-loop-index l = (length l.left ≡ length l.fn.left) × ((i : ℕ) → i < l.index → IsHeardLeft (heard_of l.fn.heard i) (latest_of l.fn.latest i) (heard_of l.left i))
