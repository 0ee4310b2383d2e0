-- What is read is what was written.
use Rattle.wf_rejoin.specs.Lines.{lines_of}
use Rattle.wf_rejoin.specs.ReplacementsText.{entry_line}
use Rattle.wf_rejoin.proofs.Entries.{only_these}
use Rattle.wf_rejoin.proofs.replacements.Replacements.read.Goals as goal

pub returns-in_default-clause-each : goal.returns-in_default-clause-each
returns-in_default-clause-each c = λ known count are e. absurd (c.in_default.ensures (lines_of entry_line known) e)

pub returns-in-Ok-clause-each : goal.returns-in-Ok-clause-each
returns-in-Ok-clause-each c = only_these c.args.bytes.now c.in-Some.rest.now c.read_entries.new.nodes c.in-Some.ensures c.in-Ok.ensures
