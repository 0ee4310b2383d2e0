use Rattle.std.proofs.Common.{refl}
use Rattle.wf_voter.proofs.Continuation.{own_heard, own_received, acting, still}
use Rattle.wf_voter.proofs.acts.handle_own.Goals as goal

pub returns-then-acts : goal.returns-then-acts
returns-then-acts g c = acting g.T.Tape _ _ (c.acts.ensures.gate c.if-acts.true) (c.acts.ensures.agrees c.if-acts.true) (c.acts.ensures.votes c.if-acts.true) refl refl refl (own_received g.T.Tape _ _ _ c.handle_own.ensures) (own_heard g.T.Tape _ _ _ c.handle_own.ensures)

pub returns-else-acts : goal.returns-else-acts
returns-else-acts g c = still g.T.Tape _
