use Rattle.wf_voter.proofs.Continuation.{follows_opened}
use Rattle.wf_voter.proofs.voter.Voter.open_process.Goals as goal

pub returns-in-Ok-reopen-clause-follows : goal.returns-in-Ok-reopen-clause-follows
returns-in-Ok-reopen-clause-follows g c = λ halted. follows_opened g.T.Tape c.args.self.now.process c.in-Ok-reopen.process c.in-Ok.tape c.in-Ok-reopen.ensures.opened c.in-Ok-reopen.ensures.stored c.in-Ok-reopen.ensures.begun halted
