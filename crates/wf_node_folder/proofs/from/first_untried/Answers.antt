-- Each record up to the end of the loop can be the node's.
use Rattle.wf_journal.specs.Record.{view}
use Rattle.wf_node_folder.specs.From.{CanBeOf}
use Rattle.wf_node_folder.proofs.Own.{up_to_end, up_to_next}
use Rattle.wf_node_folder.proofs.from.first_untried.Goals as goal

pub loop-entry-preserved : goal.loop-entry-preserved
loop-entry-preserved c =
    up_to_next view (CanBeOf c.args.id c.args.tried) c.args.records.now c.loop-entry.entry-index c.entry-item.result c.loop-entry-test.true c.entry-item.is
    c.in_default.ensures.none c.loop-entry.invariant

pub returns-clause-none : goal.returns-clause-none
returns-clause-none c =
    up_to_end view (CanBeOf c.args.id c.args.tried) c.args.records.now c.loop-entry.entry-index c.loop-entry-test.false c.loop-entry.invariant
