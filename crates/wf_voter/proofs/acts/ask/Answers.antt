use Rattle.std.proofs.Common.{refl}
use Rattle.wf_voter.proofs.Continuation.{acted, asked, asked_alone, asking, still}
use Rattle.wf_voter.proofs.acts.ask.Goals as goal

pub returns-then-asks : goal.returns-then-asks
returns-then-asks g c =
    asking g.T.Tape _ _ (c.asks.ensures c.if-asks.true) refl refl refl (acted g.T.Tape _ _ _ _ _ _ c.catch_up.ensures) (asked g.T.Tape _ _ _ _ c.catch_up.ensures)
    (asked_alone g.T.Tape _ _ _ _ c.catch_up.ensures)

pub returns-else-asks : goal.returns-else-asks
returns-else-asks g c = still g.T.Tape _
