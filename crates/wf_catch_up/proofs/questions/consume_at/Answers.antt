-- The node in the entry hears the messages.
use Rattle.std.proofs.Common.{◌≡◌, slice_get, Some, refl}
use Rattle.wf_catch_up.proofs.Common.{Running}
use Rattle.wf_catch_up.proofs.Asked.{entry_received}
use Rattle.wf_farm.proofs.Exchanges.{index_running, not_stopped}
use Rattle.wf_farm.proofs.Nodes.{entry_set}
use Rattle.wf_catch_up.proofs.questions.consume_at.Given as given
use Rattle.wf_catch_up.proofs.questions.consume_at.Goals as goal

here : (g : given.Over) (c : goal.After-consume g) → slice_get c.args.hosts.now c.args.number ≡ Some (Running c.in-Running.node)
here g c = index_running c.args.hosts.now c.args.number c.index-hosts-number.result c.requires.runs.0 c.in-Running.node c.requires.runs.1 c.in-Running.is

pub unreachable-requires : goal.unreachable-requires
unreachable-requires g c = not_stopped c.args.hosts.now c.args.number c.index-hosts-number.result c.requires.runs.0 c.in-Stopped.field-0 c.requires.runs.1 c.in-Stopped.is

pub returns-clause-receives : goal.returns-clause-receives
returns-clause-receives g c = record { before = c.in-Running.node; after = c.consume.new.node; at = here g c; received = c.consume.ensures.receives; hosts_are = refl }

pub returns-clause-entries : goal.returns-clause-entries
returns-clause-entries g c =
    entry_set g.T.Tape c.args.hosts.now c.args.number (Running c.in-Running.node) (Running c.consume.new.node) (here g c)
    (entry_received g.T.Tape c.args.messages.now c.consume.result c.in-Running.node c.consume.new.node c.consume.ensures.receives c.consume.ensures.sturdy)
