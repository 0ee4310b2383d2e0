-- The node that opened has stored what the records fold to.
use Rattle.std.proofs.Common.{map}
use Rattle.wf_journal.specs.Record.{view}
use Rattle.wf_node.specs.Node.{stored_of}
use Rattle.wf_node_folder.proofs.Own.{can_be, cannot_be}
use Rattle.wf_node_folder.proofs.from.examine_records.Goals as goal

pub returns-in-Some-clause-fault : goal.returns-in-Some-clause-fault
returns-in-Some-clause-fault c =
    cannot_be c.records_are_read_one_way.ensures.one c.args.tape.bytes (map view c.args.records.now) (stored_of c.in-Ok.node) c.requires.holds (c.in-Ok.ensures.stored tt)
    c.args.id c.last_round-tried.result c.last_round-tried.ensures c.in-Some.round c.in-Some.ensures.some

pub returns-in-None-clause-own : goal.returns-in-None-clause-own
returns-in-None-clause-own c =
    can_be c.records_are_read_one_way.ensures.one c.args.tape.bytes (map view c.args.records.now) (stored_of c.in-Ok.node) c.requires.holds (c.in-Ok.ensures.stored tt)
    c.args.id c.last_round-tried.result c.last_round-tried.ensures c.in-None.ensures.none
