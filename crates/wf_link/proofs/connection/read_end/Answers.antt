-- What came in place of the end.
use Rattle.std.proofs.Common.{inl, rules}
use Rattle.wf_link.proofs.Ends.{some_left}
use Rattle.wf_link.proofs.connection.read_end.Goals as goal

pub returns-in-Ok : goal.returns-in-Ok
returns-in-Ok g c =
    some_left (g.S.Source.failures c.args.source.now) (g.S.Source.failures c.read.new.self) c.in-Ok.field-0 c.read.new.buf (g.S.Source.left c.args.source.now) (g.S.Source.left c.read.new.self) (search rules) c.in-Ok.ensures.bound.1
    c.in-Ok.ensures.bytes.0

pub returns-in-Err : goal.returns-in-Err
returns-in-Err g c = inl c.in-Err.ensures.cause
