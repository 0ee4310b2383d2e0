-- A line that isn't read is no node's.
use Rattle.wf_rejoin.proofs.Entries.{not_an_entry}
use Rattle.wf_rejoin.proofs.replacements_reader.split_entry.Goals as goal

pub returns-in-None-split_replacement-clause-none : goal.returns-in-None-split_replacement-clause-none
returns-in-None-split_replacement-clause-none c = not_an_entry c.args.bytes.now c.in-None.ensures c.in-None-split_replacement.ensures.none
