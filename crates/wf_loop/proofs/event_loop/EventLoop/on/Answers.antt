use Rattle.wf_loop.proofs.event_loop.EventLoop.on.Goals as goal

pub returns-clause-membership : goal.returns-clause-membership
returns-clause-membership g c = c.event_loop_of.ensures.membership c.args.plan c.bind.ensures.plan
