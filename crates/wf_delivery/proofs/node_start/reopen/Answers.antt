-- The node is opened from the tape that it left.
use Rattle.wf_delivery.proofs.Common.{stored_of}
use Rattle.wf_delivery.proofs.Stored.{opened_again, still_stands}
use Rattle.wf_delivery.proofs.node_start.reopen.Goals as goal

pub returns-in-Ok-clause-again : goal.returns-in-Ok-clause-again
returns-in-Ok-clause-again c =
    opened_again c.args.node c.in-Ok.again c.close.result c.close.ensures.tape (c.close.ensures.stands tt) c.in-Ok.ensures.running c.in-Ok.ensures.volatile (c.in-Ok.ensures.stored tt)

pub returns-in-Err-clause-kept : goal.returns-in-Err-clause-kept
returns-in-Err-clause-kept c = λ runs. still_stands c.close.result c.in-Err.tape (stored_of c.args.node) (c.in-Err.ensures.images_err tt) (c.close.ensures.stands tt runs)
