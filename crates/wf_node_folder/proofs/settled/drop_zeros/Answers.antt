-- What was dropped was behind the whole records.
use Rattle.wf_node_folder.proofs.Damage.{front_whole}
use Rattle.wf_node_folder.proofs.Kept.{alike_front}
use Rattle.wf_node_folder.proofs.settled.drop_zeros.Goals as goal

pub returns-in-Ok-clause-alike : goal.returns-in-Ok-clause-alike
returns-in-Ok-clause-alike g c = λ durable.
    alike_front c.records_are_read_one_way.ensures.one (g.T.Tape.content c.args.tape) (g.T.Tape.content c.drop_unsynced.new.tape) c.args.offset (c.requires durable)
    (c.in-Ok.ensures.same durable)

pub returns-in-Ok-clause-whole : goal.returns-in-Ok-clause-whole
returns-in-Ok-clause-whole g c = λ durable.
    front_whole (g.T.Tape.content c.args.tape) c.args.offset (c.requires durable) (g.T.Tape.content c.drop_unsynced.new.tape) (g.T.Tape.images c.drop_unsynced.new.tape) c.in-Ok.dropped c.in-Ok.dropped-test.1
    (λ no. (c.in-Ok.ensures.kept durable no).0) (c.in-Ok.ensures.dropped durable)
