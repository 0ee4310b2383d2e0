use Rattle.std.proofs.Common.{rules}
use Rattle.wf_stream.specs.KnownTheorems.{keeps_same, reported_before, write_step}
use Rattle.wf_stream.proofs.stream.write_all.Goals as goal

pub loop-rest-preserved : goal.loop-rest-preserved
loop-rest-preserved g c =
    let step = write_step (g.S.Sink.written c.args.sink.now) (g.S.Sink.written c.loop-rest.sink) (g.S.Sink.written c.write.new.self) c.args.bytes.now
    c.loop-rest.invariant.0.0 c.loop-rest.rest.now c.in-Ok.count c.loop-rest.invariant.0.1 c.loop-rest.invariant.0.2 c.in-Ok.ensures.bytes in
    ((step.0, rw c.split_at.ensures.back step.1, step.2), search rules)

pub returns-in-Err-clause-last : goal.returns-in-Err-clause-last
returns-in-Err-clause-last g c = record {
  before = c.loop-rest.sink;
  appended = (reported_before _ _ _ c.args.bytes.now c.loop-rest.rest.now c.loop-rest.invariant.0 (keeps_same (g.S.Sink.written c.loop-rest.sink))).1;
  calm = c.loop-rest.invariant.1;
  failed = c.in-Err.ensures.failed;
}
