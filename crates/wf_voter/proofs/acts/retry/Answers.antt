use Rattle.std.proofs.Common.{refl}
use Rattle.wf_voter.proofs.Continuation.{acted, acting, retried, same_given, still}
use Rattle.wf_voter.proofs.acts.retry.Goals as goal

pub returns-then-acts : goal.returns-then-acts
returns-then-acts g c =
    acting g.T.Tape _ _ (c.acts.ensures.gate c.if-acts.true) (c.acts.ensures.agrees c.if-acts.true) (c.acts.ensures.votes c.if-acts.true) refl refl refl (acted g.T.Tape _ _ _ _ _ _ c.retry.ensures)
    (same_given g.T.Tape c.args.voter.now.process c.retry.new.self (retried g.T.Tape _ c.args.voter.now.process c.retry.result c.retry.new.self c.retry.ensures))

pub returns-else-acts : goal.returns-else-acts
returns-else-acts g c = still g.T.Tape _
