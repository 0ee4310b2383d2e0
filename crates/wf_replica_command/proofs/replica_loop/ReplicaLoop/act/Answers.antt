-- What readers were replied stays so, as the list goes on.
use Rattle.std.proofs.Common.{◌∙◌}
use Rattle.wf_readers_port.specs.ReadersPort.{exchanges_of}
use Rattle.wf_replica_command.proofs.Readers.{turn_replied}
use Rattle.wf_replica_command.proofs.replica_loop.ReplicaLoop.act.Goals as goal

pub invariant_of-self : goal.invariant_of-self
invariant_of-self g c = record {
  replied =
      turn_replied c.args.self.now.upstream c.ask.new.upstream c.args.self.now.clients.renderer c.ask.new.self.renderer c.act_on_each.new.clients.renderer c.serve-is_busy.new.self.renderer c.tick.new.clients.renderer
      (exchanges_of c.args.self.now.desk.readers) (exchanges_of c.act_on_each.new.desk.readers) (exchanges_of c.answer_operators.new.desk.readers) c.ask.ensures c.act_on_each.ensures.renderer c.act_on_each.ensures.replied c.serve-is_busy.ensures c.tick.ensures.renderer (c.answer_operators.ensures ∙ c.tick.ensures.exchanges)
      c.args.self.now.replied;
}

pub invariant_of-self-else-is_busy : goal.invariant_of-self-else-is_busy
invariant_of-self-else-is_busy g c = record {
  replied =
      turn_replied c.args.self.now.upstream c.ask.new.upstream c.args.self.now.clients.renderer c.ask.new.self.renderer c.act_on_each.new.clients.renderer c.serve-is_busy.new.self.renderer c.tick.new.clients.renderer
      (exchanges_of c.args.self.now.desk.readers) (exchanges_of c.act_on_each.new.desk.readers) (exchanges_of c.answer_operators.new.desk.readers) c.ask.ensures c.act_on_each.ensures.renderer c.act_on_each.ensures.replied c.serve-is_busy.ensures c.tick.ensures.renderer (c.answer_operators.ensures ∙ c.tick.ensures.exchanges)
      c.args.self.now.replied;
}
