use Rattle.std.proofs.Common.{[]}
use Rattle.wf_wire.proofs.Sent.{all_sent, none_spelled}
use Rattle.wf_wire.proofs.to_peer.ToPeer.always_sent.Goals as goal

pub returns-in-None-clause-sent : goal.returns-in-None-clause-sent
returns-in-None-clause-sent g c =
    let self = c.args.self.now in
    let none = none_spelled self.outbox c.in-None.is in
    all_sent _ self.greeting self.outbox self.greets self.sent self.first [] none.0 none.1
