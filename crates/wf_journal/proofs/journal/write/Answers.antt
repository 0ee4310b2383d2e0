-- An append that failed has left a prefix of the bytes.
use Rattle.wf_journal.proofs.CrashImages.{cut_shorter}
use Rattle.wf_journal.proofs.Moments.{inside_failed}
use Rattle.wf_journal.proofs.journal.write.Goals as goal

pub returns-in-Err-clause-images : goal.returns-in-Err-clause-images
returns-in-Err-clause-images g c = λ durable not_memory.
    cut_shorter (g.T.Tape.content c.args.tape.now) c.args.bytes.now (g.T.Tape.content c.append.new.self) (g.T.Tape.images c.args.tape.now) (g.T.Tape.images c.append.new.self) (c.in-Err.ensures.err durable)
    (c.in-Err.ensures.images durable not_memory)

pub returns-in-Err-clause-inside : goal.returns-in-Err-clause-inside
returns-in-Err-clause-inside g c = λ durable.
    inside_failed (g.T.Tape.content c.args.tape.now) c.args.bytes.now (g.T.Tape.content c.append.new.self) (g.T.Tape.images c.args.tape.now) (g.T.Tape.images c.append.new.self)
    (g.T.Tape.left_since c.append.new.self (g.T.Tape.moment c.args.tape.now)) c.append.result c.in-Err.fault c.in-Err.is (c.in-Err.ensures.err durable) (c.append.ensures.images durable) (c.append.ensures.memory durable)
    (c.append.ensures.inside durable)
