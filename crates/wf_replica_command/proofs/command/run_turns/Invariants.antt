-- The replica goes on by what it hears.
use Rattle.wf_replica_command.specs.Heard.{Hears}
use Rattle.wf_replica_command.proofs.command.run_turns.Given as goal

abbrev pub invariant-loop : goal.invariant-loop
invariant-loop g l = Hears l.fn.replica.event_loop.upstream l.fn.replica.event_loop.clients.renderer.follower l.replica.event_loop.upstream l.replica.event_loop.clients.renderer.follower
