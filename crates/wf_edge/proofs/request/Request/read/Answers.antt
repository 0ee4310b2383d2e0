use Rattle.wf_edge.proofs.RequestTheorem.{body_failed, request_taken}
use Rattle.wf_edge.proofs.request.Request.read.Goals as goal

pub returns-in-Err-read_body-clause-err : goal.returns-in-Err-read_body-clause-err
returns-in-Err-read_body-clause-err g c =
    body_failed (g.S.Source.left c.args.source.now) (g.S.Source.left c.read.new.source) c.in-Ok.front c.in-Ok-resolve.asked c.body_bytes.result c.behind.result.now _
    c.in-Ok.ensures.ok c.in-Ok-resolve.ensures c.body_bytes.ensures c.behind.ensures c.in-Err-read_body.ensures.err

pub returns-in-Err-read_body-clause-takes : goal.returns-in-Err-read_body-clause-takes
returns-in-Err-read_body-clause-takes g c =
    request_taken (g.S.Source.piece c.args.source.now) (g.S.Source.left c.args.source.now) (g.S.Source.left c.read.new.source) (g.S.Source.left c.read_body.new.source)
    c.in-Ok.front c.in-Ok-resolve.asked c.body_bytes.result c.behind.result.now c.read.ensures.takes c.in-Ok.ensures.ok c.in-Ok-resolve.ensures c.body_bytes.ensures
    c.behind.ensures c.read_body.ensures.takes

pub returns-in-Ok-read_body-clause-takes : goal.returns-in-Ok-read_body-clause-takes
returns-in-Ok-read_body-clause-takes g c =
    request_taken (g.S.Source.piece c.args.source.now) (g.S.Source.left c.args.source.now) (g.S.Source.left c.read.new.source) (g.S.Source.left c.read_body.new.source)
    c.in-Ok.front c.in-Ok-resolve.asked c.body_bytes.result c.behind.result.now c.read.ensures.takes c.in-Ok.ensures.ok c.in-Ok-resolve.ensures c.body_bytes.ensures
    c.behind.ensures c.read_body.ensures.takes
