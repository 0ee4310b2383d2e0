use Rattle.std.proofs.Common.{◌≡◌, [], None, refl, rules, true}
use Rattle.wf_mail.specs.Receiver.{came}
use Rattle.wf_wire.proofs.Arrival.{among_nothing, nothing_came, opened, taken_none, unsaid}
use Rattle.wf_wire.proofs.from_peer.FromPeer.new.Goals as goal

pub invariant_of-result : goal.invariant_of-result
invariant_of-result g c =
    let empty : c.new.result.items ≡ [] = search rules in
    let none : c.new-3.result.items ≡ [] = search rules in
    record {
      taken_in = nothing_came (g.C.Connection.came c.args.connection) c.new.result.items c.new-2.result true c.requires empty c.new-2.ensures;
      is_said = unsaid None c.new.result.items refl;
      unread = λ s. taken_none _ c.new-2.ensures;
      unbroken = λ w. opened _ c.new-2.ensures;
      waiting = among_nothing c.new-3.result.items (came c.new-2.result) none;
    }
