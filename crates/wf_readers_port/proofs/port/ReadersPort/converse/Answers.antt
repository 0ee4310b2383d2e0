use Rattle.wf_readers_port.proofs.Replied.{among_along, replied_along}
use Rattle.wf_readers_port.proofs.port.ReadersPort.converse.Goals as goal

pub invariant_of-self : goal.invariant_of-self
invariant_of-self g c = record {
  replied = replied_along g.N.Connection.Connection c.args.published.now.own.now c.args.published.now.history.now.definitions c.args.published.now.digests.now
      c.args.reader.now.exchanges.items c.args.self.now.exchanges.items c.turn.new.self.exchanges.items c.turn.new.all.items c.args.self.now.slots.items c.turn.ensures c.args.self.now.replied;
}

pub returns-clause-among : goal.returns-clause-among
returns-clause-among g c = among_along c.args.published.now.own.now c.args.published.now.history.now.definitions c.args.published.now.digests.now
    c.args.reader.now.exchanges.items c.args.self.now.exchanges.items c.turn.new.self.exchanges.items c.turn.new.all.items c.turn.ensures c.requires
