-- Without a record nothing is written.
use Rattle.std.proofs.Common.{option_map, ap}
use Rattle.std.specs.Option.{option_copied}
use Rattle.wf_journal.specs.Record.{view}
use Rattle.wf_node.proofs.Replies.{written_none}
use Rattle.wf_node.proofs.tape_writes.store.Goals as goal

pub returns-in-None : goal.returns-in-None
returns-in-None g c =
    written_none g.T.Tape (option_map view (option_copied c.args.entry)) c.args.journal.now
    (ap (λ e. option_map view (option_copied e)) c.in-None.is) c.requires
