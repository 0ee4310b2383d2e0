-- A record that is on the tape, and one that is there or not.
use Rattle.wf_journal.specs.Record.{view}
use Rattle.wf_node.proofs.Replies.{written, broken, spared_some}
use Rattle.wf_node.proofs.tape_writes.add.Goals as goal

pub returns-in-Ok : goal.returns-in-Ok
returns-in-Ok g c =
    written g.T.Tape (view c.args.entry.now) c.args.journal.now c.add.new.self
    c.in-Ok.ensures.running c.in-Ok.ensures.ok c.in-Ok.ensures.one_more
    (λ durable image left. let earlier = c.add.ensures.inside durable image left in (earlier.0, (g.met.T.Tape.is_now durable c.args.journal.now.tape).counts earlier.0 earlier.1, earlier.2)) c.add.ensures.sturdy

pub returns-in-Err-TapeFailed : goal.returns-in-Err-TapeFailed
returns-in-Err-TapeFailed g c =
    broken g.T.Tape (view c.args.entry.now) c.args.journal.now c.add.new.self
    (c.in-Err-TapeFailed.ensures.halted (cc (c.in-Err-TapeFailed.field-0-is))) (c.in-Err-TapeFailed.ensures.failed (cc (c.in-Err-TapeFailed.field-0-is)))
    (λ h. c.in-Err-TapeFailed.ensures.part h (cc (c.in-Err-TapeFailed.field-0-is))) c.in-Err-TapeFailed.ensures.images
    (λ durable image left. let earlier = c.add.ensures.inside durable image left in (earlier.0, (g.met.T.Tape.is_now durable c.args.journal.now.tape).counts earlier.0 earlier.1, earlier.2))
    (λ sound. c.in-Err-TapeFailed.ensures.sound sound (cc (c.in-Err-TapeFailed.field-0-is)))

pub returns-in-Err-Memory : goal.returns-in-Err-Memory
returns-in-Err-Memory g c =
    spared_some g.T.Tape (view c.args.entry.now) c.args.journal.now c.add.new.self
    (c.add.ensures.still_running (cc (c.in-Err-Memory.is, c.in-Err-Memory.field-0-is))) (λ durable. c.add.ensures.memory durable (cc (c.in-Err-Memory.is, c.in-Err-Memory.field-0-is)))
    (λ durable image left. let earlier = c.add.ensures.inside durable image left in (earlier.0, (g.met.T.Tape.is_now durable c.args.journal.now.tape).counts earlier.0 earlier.1, earlier.2)) c.add.ensures.sturdy
