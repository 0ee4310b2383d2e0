-- The node is asked, and then its messages are delivered.
use Rattle.std.proofs.Common.{arith}
use Rattle.wf_delivery.proofs.OneRun.{deliveries_are_reachable}
use Rattle.wf_farm.proofs.Common.{nodes_of}
use Rattle.wf_farm.proofs.Nodes.{changed_entries, entries_twice, in_turn_of}
use Rattle.wf_farm.proofs.exchange.exchange_in.Goals as goal

pub deliver_each-requires : goal.deliver_each-requires
deliver_each-requires g c = record {
  some = omega (arith, c.requires.within, c.ask_node-messages.ensures.entries.as_many);
  in_turn = in_turn_of g.T.Tape.durable g.T.Tape.images g.T.Tape.never_fails c.ask_node-messages.new.hosts (c.ask_node-messages.ensures.entries.members c.requires.members);
}

pub returns-clause-exchange : goal.returns-clause-exchange
returns-clause-exchange g c = record {
  outputs = c.ask_node-messages.result;
  middle = nodes_of c.ask_node-messages.new.hosts;
  asked = c.ask_node-messages.ensures.asked;
  delivered = c.deliver_each.ensures.delivered;
  handed = c.deliver_each.ensures.handed;
}

pub returns-clause-reachable : goal.returns-clause-reachable
returns-clause-reachable g c =
    deliveries_are_reachable g.T.Tape (nodes_of c.args.hosts.now) (nodes_of c.ask_node-messages.new.hosts) (nodes_of c.deliver_each.new.entries) c.ask_node-messages.result.items c.deliver_each.result.deliveries
    c.ask_node-messages.ensures.only_sends c.deliver_each.ensures.delivered

pub returns-clause-entries : goal.returns-clause-entries
returns-clause-entries g c = entries_twice g.T.Tape c.args.hosts.now c.ask_node-messages.new.hosts c.deliver_each.new.entries c.ask_node-messages.ensures.entries
    (changed_entries g.T.Tape c.ask_node-messages.new.hosts c.deliver_each.new.entries c.deliver_each.ensures.changed)
