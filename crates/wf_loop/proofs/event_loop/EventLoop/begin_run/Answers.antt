use Rattle.std.proofs.Common.{refl}
use Rattle.wf_loop.proofs.event_loop.EventLoop.begin_run.Goals as goal
use Rattle.wf_loop.proofs.Readers.{replied_kept}
use Rattle.wf_voter.proofs.Earlier.{stay_kept}

pub invariant_of-self : goal.invariant_of-self
invariant_of-self g c = record {
  earlier = stay_kept g.T.Tape _ _ _ _ refl (c.begin_run.ensures.earlier c.requires.follows.halted) c.args.self.now.earlier;
  replied = replied_kept g.T.Tape _ _ _ _ refl (c.begin_run.ensures.earlier c.requires.follows.halted) c.args.self.now.replied;
}
