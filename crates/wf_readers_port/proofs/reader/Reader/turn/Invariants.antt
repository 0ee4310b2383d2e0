use Rattle.wf_readers_port.specs.Exchanges.{HasConversed}
use Rattle.wf_readers_port.proofs.reader.Reader.turn.Given as goal

abbrev pub invariant-loop : goal.invariant-loop
invariant-loop g l = HasConversed l.published.own.now l.published.history.now.definitions l.published.digests.now l.fn.self.exchanges.items l.fn.all.items l.self.exchanges.items l.all.items
