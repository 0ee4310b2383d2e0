-- The first node's line and those of the others are the lines of all.
use Rattle.std.proofs.lemmas.Result.{on_ok_weaker}
use Rattle.wf_rejoin.proofs.Entries.{one_entry_more}
use Rattle.wf_rejoin.proofs.replacements_text.+push_entries.Goals as goal

pub returns-in_ok-push_entry-in-Some-clause-items : goal.returns-in_ok-push_entry-in-Some-clause-items
returns-in_ok-push_entry-in-Some-clause-items t c =
    on_ok_weaker c.push_entries.result
    (one_entry_more c.args.text.now.items c.push_entry.new.text.items c.push_entries.new.text.items c.args.nodes.now c.in-Some.rest.now c.in-Some.node.now c.in-Some.ensures.cases.0 c.in_ok-push_entry-in-Some.ensures.items)
    c.push_entries.ensures.items
