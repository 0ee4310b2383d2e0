-- The running proposal keeps the highest reported round.
use Rattle.wf_proposer.proofs.Counted.{nack_counted}
use Rattle.wf_proposer.proofs.proposer.Proposer.on_nack.Goals as goal

pub returns-in-Running : goal.returns-in-Running
returns-in-Running c =
    rw (← c.self.view_is)
    (nack_counted c.self.inside.volatile.leadership c.self.inside.volatile.proposing c.in-Running.proposal _ c.on_nack.result c.args.slot c.args.ballot c.args.promised c.in-Running.is c.on_nack.ensures)
