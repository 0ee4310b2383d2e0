-- Nothing had arrived before the first piece, so the cause is that of all bytes.
use Rattle.std.proofs.Common.{length}
use Rattle.wf_link.proofs.Causes.{fails_weaker, lost_first}
use Rattle.wf_link.proofs.message_crossing.pass_all.Goals as goal

pub returns-in-Err-clause-cause : goal.returns-in-Err-clause-cause
returns-in-Err-clause-cause g c =
    fails_weaker c.in-Err.fault (λ calm. calm)
    (lost_first (length c.args.bytes.now) (g.K.Sink.failures c.args.sink.now) (g.K.Sink.failures c.pass_each.new.sink) (g.S.Source.failures c.args.source.now) (g.S.Source.failures c.pass_each.new.source)
    (g.S.Source.left c.args.source.now) (g.S.Source.left c.pass_each.new.source) c.nothing-arrival.result c.nothing-arrival.ensures)
    c.in-Err.ensures.cause
