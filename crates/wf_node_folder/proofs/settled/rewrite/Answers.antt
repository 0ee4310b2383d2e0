-- A journal that opened holds the records that were read, and hands its tape back as it is.
use Rattle.std.proofs.Common.{map, subst, sym}
use Rattle.wf_journal.specs.Record.{view}
use Rattle.wf_node_folder.proofs.Kept.{alike_opened}
use Rattle.wf_node_folder.proofs.settled.rewrite.Goals as goal
use Rattle.wf_node_folder.specs.Damage.{AreWhole}
use Rattle.wf_node_folder.specs.Held.{ReadAlike}

pub returns-in-Ok-clause-alike : goal.returns-in-Ok-clause-alike
returns-in-Ok-clause-alike g c = λ durable.
    let read = c.in-Ok.ensures.records durable in
    subst (λ tape. ReadAlike (g.T.Tape.content c.args.tape) (g.T.Tape.content tape)) (sym c.close.ensures)
    (alike_opened c.records_are_read_one_way.ensures.one (g.T.Tape.content c.args.tape) (g.T.Tape.content c.in-Ok.journal.tape) (map view c.in-Ok.records.items) read.0 read.1
    (c.in-Ok.ensures.synced durable).are_records)

pub returns-in-Ok-clause-whole : goal.returns-in-Ok-clause-whole
returns-in-Ok-clause-whole g c = λ durable.
    subst (λ tape. AreWhole (g.T.Tape.content tape)) (sym c.close.ensures) (map view c.in-Ok.records.items, (c.in-Ok.ensures.synced durable).are_records)
