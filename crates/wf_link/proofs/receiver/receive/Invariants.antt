-- The bytes so far have arrived, and no read failed.
use Rattle.std.proofs.Common.{◌≡◌, ◌≤◌, ◌-◌}
use Rattle.wf_link.specs.Arrival.{Arrives}
use Rattle.wf_link.proofs.receiver.receive.Given as goal

abbrev pub invariant-loop-received : goal.invariant-loop-received
invariant-loop-received g l =
    Arrives l.received (g.S.Source.left l.fn.source) (g.S.Source.left l.source) l.fn.arrival l.arrival × (l.received ≤ l.count) × (g.S.Source.failures l.source ≡ g.S.Source.failures l.fn.source)

abbrev pub decreases-loop-received : goal.decreases-loop-received
decreases-loop-received g l = l.count - l.received
