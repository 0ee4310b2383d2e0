use Rattle.std.proofs.Common.{drop, ◌++◌}
use Rattle.wf_mail.proofs.Ends.{piece_begins, only_memory}
use Rattle.wf_mail.proofs.theorem.carry_over.Goals as goal

pub returns-in-Err-clause-memory : goal.returns-in-Err-clause-memory
returns-in-Err-clause-memory c =
    let chunk = c.chunk-chunk.result.now in
    let rest = c.chunk-chunk.ensures.front in
    only_memory c.loop-outbox.outbox c.loop-outbox.receiver c.receive.new.self c.split_at.result.0.now (drop c.min.result chunk ++ rest.0) c.in-Err.fault
    c.always_spells.ensures.messages c.always_spells.ensures.spells c.loop-outbox.invariant.0 c.loop-outbox.invariant.1
    (piece_begins chunk rest.0 c.loop-outbox.outbox.waiting c.split_at.result.0.now c.min.result c.split_at.ensures.front rest.1) c.in-Err.ensures.err
