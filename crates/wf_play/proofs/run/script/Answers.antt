-- A script is read from the whole input, to its end; and its error is the error of the input.
use Rattle.std.proofs.Common.{arith}
use Rattle.wf_play.proofs.WholeInput.{whole_fault, whole_input, whole_meaning}
use Rattle.wf_play.proofs.run.script.Goals as goal

pub returns-in-Ok-clause-whole : goal.returns-in-Ok-clause-whole
returns-in-Ok-clause-whole g c =
    whole_input (g.S.Source.left c.args.source.now) c.in_ok-bytes.bytes.items c.in-Ok.script c.in_ok-bytes.ensures.first
    (rw c.deref.ensures.value at c.in-Ok.ensures.bytes) (rw c.deref.ensures.value at c.in-Ok.ensures.lines) (rw c.deref.ensures.value at c.in-Ok.ensures.value)

pub returns-in-Ok-clause-end : goal.returns-in-Ok-clause-end
returns-in-Ok-clause-end g c =
    let short = rw c.deref.ensures.value at c.in-Ok.ensures.bytes in
    c.in_ok-bytes.ensures.end (omega (arith, short))

pub returns-in-Err-clause-err : goal.returns-in-Err-clause-err
returns-in-Err-clause-err g c =
    whole_fault c.a_beginning_is_examined_alike.ensures (g.S.Source.left c.args.source.now) c.in_ok-bytes.bytes.items c.in-Err.fault c.in_ok-bytes.ensures.first
    (rw c.deref.ensures.value at c.in-Err.ensures.value)

pub returns-in-Ok-clause-means : goal.returns-in-Ok-clause-means
returns-in-Ok-clause-means g c =
    whole_meaning c.a_beginning_is_examined_alike.ensures (g.S.Source.left c.args.source.now) c.in_ok-bytes.bytes.items c.in-Ok.script c.in_ok-bytes.ensures.first (rw c.deref.ensures.value at c.in-Ok.ensures.value)
