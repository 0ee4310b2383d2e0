use Rattle.std.proofs.Common.{◌≡◌}
use Rattle.wf_loop.specs.Readers.{StayReplied}
use Rattle.wf_peer_connections.specs.ReadersPort.{exchanges_of}
use Rattle.wf_voter.specs.Continuation.{ContinuesIn}
use Rattle.wf_loop.proofs.turn.act_on_those.Given as goal

abbrev pub invariant-loop-token : goal.invariant-loop-token
invariant-loop-token g l =
    ContinuesIn g.T.Tape (g.F.NodeFolder.stands l.fn.folder) l.fn.voter (g.F.NodeFolder.stands l.folder) l.voter × (l.clients.before.items ≡ l.fn.clients.before.items)
    × StayReplied g.T.Tape l.fn.voter.process l.voter.process (exchanges_of l.fn.desk.readers) (exchanges_of l.desk.readers)
