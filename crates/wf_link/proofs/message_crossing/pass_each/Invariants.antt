-- The pieces so far have passed.
use Rattle.std.proofs.Common.{length}
use Rattle.wf_link.proofs.Crossed.{HavePassed}
use Rattle.wf_link.proofs.message_crossing.pass_each.Given as goal

abbrev pub invariant-loop-rest : goal.invariant-loop-rest
invariant-loop-rest g l =
    HavePassed l.bytes l.rest (g.K.Sink.written l.fn.sink) (g.K.Sink.written l.sink) (g.S.Source.left l.fn.source) (g.S.Source.left l.source) (g.K.Sink.failures l.fn.sink) (g.K.Sink.failures l.sink)
    (g.S.Source.failures l.fn.source) (g.S.Source.failures l.source) l.fn.arrival l.arrival

abbrev pub decreases-loop-rest : goal.decreases-loop-rest
decreases-loop-rest g l = length l.rest
