-- The cause, and what is remembered.
use Rattle.wf_peer.specs.GreetingReply.{cause_bytes, rejection_bytes, remembered_bytes}
use Rattle.wf_peer.proofs.Decoded.{two_pieces}
use Rattle.wf_peer.proofs.reply.put_rejection.Goals as goal

pub returns : goal.returns
unfolding rejection_bytes
returns c = two_pieces c.args.out.now.items c.put_cause.new.out.items c.put_remembered.new.out.items (cause_bytes c.args.why) (remembered_bytes c.args.remembered.now) c.put_cause.ensures.items c.put_remembered.ensures
