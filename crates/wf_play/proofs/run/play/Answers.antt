-- All orders are performed on a new farm.
use Rattle.wf_play.proofs.PlayEnd.{begun, not_begun, on_fault}
use Rattle.wf_play.proofs.ScriptRun.{all_played}
use Rattle.wf_play.proofs.Report.{also_ok}
use Rattle.wf_play.proofs.run.play.Goals as goal

pub returns-in-Ok-clause-plays : goal.returns-in-Ok-clause-plays
returns-in-Ok-clause-plays g c =
    also_ok c.perform_all-played.result (all_played c.args.script.now c.in-Ok.session.script c.len.result c.in-Ok.session.farm c.perform_all-played.new.session.farm _ _
    c.in-Ok.ensures.script c.len.ensures.value c.in-Ok.ensures.start c.in-Ok.ensures.fresh) c.perform_all-played.ensures.plays

pub returns-in-Ok-clause-begun : goal.returns-in-Ok-clause-begun
returns-in-Ok-clause-begun g c =
    on_fault c.perform_all-played.result
    (λ fault ended. begun c.args.script.now c.in-Ok.session.script c.in-Ok.session.farm (g.K.Sink.written c.args.sink.now) (g.K.Sink.written c.perform_all-played.new.sink) fault c.in-Ok.ensures.script c.in-Ok.ensures.start c.in-Ok.ensures.fresh ended)
    c.perform_all-played.ensures.ended

-- no farm was made
pub returns-in-Err-clause-begun : goal.returns-in-Err-clause-begun
returns-in-Err-clause-begun g c = not_begun c.args.script.now (g.K.Sink.written c.args.sink.now) c.in-Err.fault c.in-Err.ensures.memory
