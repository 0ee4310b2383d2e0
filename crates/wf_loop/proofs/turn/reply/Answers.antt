-- The reader is replied by the list as it is, by a process that has lived.
use Rattle.std.proofs.Common.{◌∙◌, ap}
use Rattle.wf_loop.proofs.Readers.{replied_more}
use Rattle.wf_loop.proofs.turn.reply.Goals as goal

pub returns : goal.returns
returns g c =
    replied_more g.T.Tape c.args.voter.now.process (record { life = c.always_lived.ensures; sent = c.always_received.ensures.sent; received = c.always_received.ensures.received }) _ _ _ _ _
    (c.history-history.ensures ∙ ap (λ n. n.parts.history) c.node.ensures) c.on_ready.ensures
