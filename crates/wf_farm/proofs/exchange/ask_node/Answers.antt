-- The client asks the node at the index, which runs.
use Rattle.std.proofs.Common.{◌≡◌, slice_get, Some}
use Rattle.wf_farm.proofs.Common.{Running}
use Rattle.wf_farm.proofs.Exchanges.{asked_as, asked_entries, asked_reaches, index_running, not_stopped, ready_there}
use Rattle.wf_farm.proofs.exchange.ask_node.Given as given
use Rattle.wf_farm.proofs.exchange.ask_node.Goals as goal

here : (g : given.Over) (c : goal.After-ask g) → slice_get c.args.hosts.now c.args.number ≡ Some (Running c.in-Running.node)
here g c = index_running c.args.hosts.now c.args.number c.index-hosts-number.result c.requires.runs.0 c.in-Running.node c.requires.runs.1 c.in-Running.is

pub ask-requires : goal.ask-requires
ask-requires g c =
    ready_there g.C.NodeClient.ready c.args.client.now c.args.hosts.now c.args.number c.in-Running.node c.requires.ready
    (index_running c.args.hosts.now c.args.number c.index-hosts-number.result c.requires.runs.0 c.in-Running.node c.requires.runs.1 c.in-Running.is)

pub unreachable-requires : goal.unreachable-requires
unreachable-requires g c = not_stopped c.args.hosts.now c.args.number c.index-hosts-number.result c.requires.runs.0 c.in-Stopped.field-0 c.requires.runs.1 c.in-Stopped.is

pub returns-clause-asked : goal.returns-clause-asked
returns-clause-asked g c =
    asked_as g.T.Tape g.C.NodeClient.asks c.args.hosts.now c.args.number c.args.client.now c.ask.new.self c.in-Running.node c.ask.new.node c.ask.result (here g c) c.ask.ensures.asks

pub returns-clause-only_sends : goal.returns-clause-only_sends
returns-clause-only_sends g c =
    asked_reaches g.T.Tape c.args.hosts.now c.args.number c.in-Running.node c.ask.new.node c.ask.result.items (here g c) c.requires.members c.ask.ensures.reaches

pub returns-clause-entries : goal.returns-clause-entries
returns-clause-entries g c =
    asked_entries g.T.Tape c.args.hosts.now c.args.number c.in-Running.node c.ask.new.node c.ask.result.items (here g c) c.requires.members c.ask.ensures.reaches c.ask.ensures.sturdy
