-- The tape is read, and then replaced.
use Rattle.wf_journal.specs.MomentTheorems.{inside_opened}
use Rattle.wf_recovery.proofs.recovery.drop_unsynced.Goals as goal

pub returns-in-Ok-keep_front-clause-inside : goal.returns-in-Ok-keep_front-clause-inside
returns-in-Ok-keep_front-clause-inside g c = λ durable.
    inside_opened (g.T.Tape.moment c.args.tape.now) (g.T.Tape.moment c.read.new.self) (g.T.Tape.moment c.keep_front.new.tape) (g.T.Tape.images c.args.tape.now) (g.T.Tape.images c.read.new.self)
    (g.T.Tape.left_since c.args.tape.now) (g.T.Tape.left_since c.read.new.self) (g.T.Tape.left_since c.keep_front.new.tape)
    (c.read.ensures.time durable) (c.keep_front.ensures.time durable) (c.read.ensures.inside durable) (c.read.ensures.same durable).no_other (c.keep_front.ensures.inside durable)
