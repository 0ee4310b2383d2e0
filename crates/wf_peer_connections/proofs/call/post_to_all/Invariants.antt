use Rattle.std.proofs.Common.{map}
use Rattle.wf_codec.specs.Message.{view}
use Rattle.wf_peer_connections.proofs.Posted.{ArePostedBelow}
use Rattle.wf_peer_connections.proofs.call.post_to_all.Given as goal

abbrev pub invariant-loop-index : goal.invariant-loop-index
invariant-loop-index g l = ArePostedBelow l.post.target (map view l.post.messages.items) l.index l.fn.dials.items l.dials.items
