-- Each index is set, and those before it stay.
use Rattle.std.proofs.Common.{arith}
use Rattle.wf_peer.proofs.HeardLater.{left_of_all}
use Rattle.wf_peer.proofs.told.leave.Goals as goal

pub returns : goal.returns
returns c = left_of_all c.args.heard.now c.args.latest.now c.loop-index.left c.loop-index.index (omega (arith, c.requires, c.loop-index.auto.left)) (omega (arith, c.loop-index-test.false, c.loop-index.auto.left)) c.loop-index.invariant.1
