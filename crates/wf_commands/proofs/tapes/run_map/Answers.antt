use Rattle.wf_commands.proofs.Listed.{known_written}
use Rattle.wf_commands.proofs.tapes.run_map.Goals as goal

pub returns-in-Ok-clause-written : goal.returns-in-Ok-clause-written
returns-in-Ok-clause-written g c =
    known_written ((g.V.Tapes.content c.args.tapes.now).file c.args.path.now) c.in-Ok.bytes.items c.deref.result.now c.args.sequence (g.K.Sink.written c.args.sink.now)
    (g.K.Sink.written c.write_map-outcome.new.sink) c.write_map-outcome.result c.deref.ensures.value c.in-Ok.ensures.whole c.write_map-outcome.ensures.written
