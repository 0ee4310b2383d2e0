use Rattle.std.proofs.Common.{refl}
use Rattle.wf_edge.specs.ResponseEndTheorems.{fault_serves, read_serves}
use Rattle.wf_edge.proofs.serve.serve_with.Goals as goal

pub returns-in-Ok-clause-serves : goal.returns-in-Ok-clause-serves
returns-in-Ok-clause-serves g c =
    read_serves g.S.Source g.K.Sink g.T.Tape c.args.source.now c.read.new.source c.args.sink.now c.args.sink.now c.answer_request-served.new.sink
    c.in-Ok.request c.args.node.now c.answer_request-served.new.node c.answer_request-served.result.messages c.answer_request-served.result.outcome
    c.in-Ok.ensures.ok refl c.in-Ok.ensures.reads c.answer_request-served.ensures.served

pub returns-in-Err-clause-serves : goal.returns-in-Err-clause-serves
returns-in-Err-clause-serves g c =
    fault_serves g.S.Source g.K.Sink g.T.Tape c.args.source.now c.read.new.source c.args.sink.now c.write_error.new.sink c.args.node.now c.in-Err.fault
    c.write_error.result c.in-Err.ensures.err c.in-Err.ensures.reads c.write_error.ensures.completion c.write_error.ensures.writes c.write_error.ensures.last
    c.new.result c.new.ensures.items
