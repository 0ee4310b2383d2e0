-- A turn goes on from what was heard before it.
use Rattle.wf_replica_command.proofs.Faults.{served_until}
use Rattle.wf_replica_command.proofs.Hearing.{hears_twice}
use Rattle.wf_replica_command.proofs.command.run_turns.Goals as goal

pub returns-in-Ended : goal.returns-in-Ended
returns-in-Ended g c =
    served_until g.T.Tape c.in-Ended.why c.args.replica.now.event_loop c.wait_and_run.new.self.event_loop c.requires
    (hears_twice c.args.replica.now.event_loop.upstream c.loop.replica.event_loop.upstream c.wait_and_run.new.self.event_loop.upstream c.args.replica.now.event_loop.clients.renderer.follower c.loop.replica.event_loop.clients.renderer.follower c.wait_and_run.new.self.event_loop.clients.renderer.follower c.loop.invariant c.wait_and_run.ensures.heard)
    c.wait_and_run.ensures.lived c.wait_and_run.ensures.told c.wait_and_run.ensures.recorded c.wait_and_run.ensures.of_farm c.wait_and_run.ensures.answered c.wait_and_run.ensures.stayed c.wait_and_run.ensures.replied c.in-Ended.ensures.ended

pub loop-preserved : goal.loop-preserved
loop-preserved g c =
    hears_twice c.args.replica.now.event_loop.upstream c.loop.replica.event_loop.upstream c.wait_and_run.new.self.event_loop.upstream c.args.replica.now.event_loop.clients.renderer.follower c.loop.replica.event_loop.clients.renderer.follower c.wait_and_run.new.self.event_loop.clients.renderer.follower c.loop.invariant c.wait_and_run.ensures.heard
