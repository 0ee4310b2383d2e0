use Rattle.std.specs.Prelude.{◌≡◌}
use Rattle.wf_peer_connections.specs.Inbound.{messages_in, peer_on}
use Rattle.wf_peer_connections.proofs.inbound.Inbound.send.Given as goal

abbrev pub invariant-loop : goal.invariant-loop
invariant-loop g l = (messages_in l.self ≡ messages_in l.fn.self) × (peer_on l.self ≡ peer_on l.fn.self)
