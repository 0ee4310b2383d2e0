-- The tape is read, and then settled.
use Rattle.std.proofs.Common.{sym, subst}
use Rattle.wf_journal.specs.Journal.{Follows, ReadsSame}
use Rattle.wf_journal.specs.MomentTheorems.{inside_opened}
use Rattle.wf_node.proofs.Opened.{follows_before}
use Rattle.wf_node.proofs.node.Node.open.Goals as goal

pub returns-in-Ok-settle-clause-images : goal.returns-in-Ok-settle-clause-images
returns-in-Ok-settle-clause-images g c = λ durable.
    subst (λ tape. Follows ReadsSame (g.T.Tape.images c.args.tape) (g.T.Tape.images tape)) (sym c.assemble.ensures.tape)
    (follows_before (g.T.Tape.images c.args.tape) (g.T.Tape.images c.in-Ok.found.tape) (g.T.Tape.images c.in-Ok-settle.journal.tape) (c.in-Ok.ensures.unchanged durable).no_other (c.in-Ok-settle.ensures.images durable))

pub returns-in-Ok-settle-clause-inside : goal.returns-in-Ok-settle-clause-inside
returns-in-Ok-settle-clause-inside g c = λ durable.
    subst (λ tape. Follows ReadsSame (g.T.Tape.images c.args.tape) (g.T.Tape.left_since tape (g.T.Tape.moment c.args.tape))) (sym c.assemble.ensures.tape)
    (inside_opened (g.T.Tape.moment c.args.tape) (g.T.Tape.moment c.in-Ok.found.tape) (g.T.Tape.moment c.in-Ok-settle.journal.tape) (g.T.Tape.images c.args.tape) (g.T.Tape.images c.in-Ok.found.tape)
    (g.T.Tape.left_since c.args.tape) (g.T.Tape.left_since c.in-Ok.found.tape) (g.T.Tape.left_since c.in-Ok-settle.journal.tape)
    (c.in-Ok.ensures.time durable) (c.in-Ok-settle.ensures.time durable) (c.in-Ok.ensures.inside durable) (c.in-Ok.ensures.unchanged durable).no_other (c.in-Ok-settle.ensures.inside durable))

pub returns-in-Err-settle-clause-inside_err : goal.returns-in-Err-settle-clause-inside_err
returns-in-Err-settle-clause-inside_err g c = λ durable.
    inside_opened (g.T.Tape.moment c.args.tape) (g.T.Tape.moment c.in-Ok.found.tape) (g.T.Tape.moment c.in-Err-settle.step_rejection.0) (g.T.Tape.images c.args.tape) (g.T.Tape.images c.in-Ok.found.tape)
    (g.T.Tape.left_since c.args.tape) (g.T.Tape.left_since c.in-Ok.found.tape) (g.T.Tape.left_since c.in-Err-settle.step_rejection.0)
    (c.in-Ok.ensures.time durable) (c.in-Err-settle.ensures.time_err durable) (c.in-Ok.ensures.inside durable) (c.in-Ok.ensures.unchanged durable).no_other (c.in-Err-settle.ensures.inside_err durable)
