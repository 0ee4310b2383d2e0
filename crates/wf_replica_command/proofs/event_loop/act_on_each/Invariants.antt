-- The replica stays, and what readers were replied was by its list.
use Rattle.std.proofs.Common.{◌≡◌}
use Rattle.wf_readers_port.specs.ReadersPort.{exchanges_of}
use Rattle.wf_replica.specs.Follower.{list_of}
use Rattle.wf_replica_command.specs.Readers.{GoOnReplied}
use Rattle.wf_replica_command.proofs.event_loop.act_on_each.Given as goal

abbrev pub invariant-loop-token : goal.invariant-loop-token
invariant-loop-token g l =
    (l.clients.renderer ≡ l.fn.clients.renderer)
    × GoOnReplied (list_of l.fn.clients.renderer.follower) (list_of l.fn.clients.renderer.follower) (exchanges_of l.fn.desk.readers) (exchanges_of l.desk.readers)
