-- The tape is read, and then settled.
use Rattle.wf_journal.specs.MomentTheorems.{inside_opened}
use Rattle.wf_journal.proofs.journal.Journal.open.Goals as goal

pub returns-in-Ok-settle-clause-inside : goal.returns-in-Ok-settle-clause-inside
returns-in-Ok-settle-clause-inside g c = λ durable.
    inside_opened (g.T.Tape.moment c.args.tape) (g.T.Tape.moment c.in-Ok.found.tape) (g.T.Tape.moment c.in-Ok-settle.journal.tape) (g.T.Tape.images c.args.tape) (g.T.Tape.images c.in-Ok.found.tape)
    (g.T.Tape.left_since c.args.tape) (g.T.Tape.left_since c.in-Ok.found.tape) (g.T.Tape.left_since c.in-Ok-settle.journal.tape)
    (c.in-Ok.ensures.time durable) (c.in-Ok-settle.ensures.time durable) (c.in-Ok.ensures.inside durable) (c.in-Ok.ensures.unchanged durable).no_other (c.in-Ok-settle.ensures.inside durable)
