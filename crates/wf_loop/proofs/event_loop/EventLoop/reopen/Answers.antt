use Rattle.std.proofs.Common.{◌≡◌, rules, true}
use Rattle.wf_loop.proofs.event_loop.EventLoop.reopen.Goals as goal

pub begin_run-requires-clause-follows : goal.begin_run-requires-clause-follows
begin_run-requires-clause-follows g c =
    let halted : c.args.self.now.voter.process.actor.node.halted ≡ true = search rules in
    c.in-Ok.ensures.follows halted
