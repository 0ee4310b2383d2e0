-- What is played is the script that the input is.
use Rattle.wf_play.proofs.PlayEnd.{both_faults, input_begun, nothing_begun}
use Rattle.wf_play.proofs.Last.{input_is_not_last}
use Rattle.wf_play.proofs.Report.{also_ok}
use Rattle.wf_play.proofs.run.run_script.Goals as goal

pub returns-in-Ok-clause-plays : goal.returns-in-Ok-clause-plays
returns-in-Ok-clause-plays g c = also_ok c.play-played.result (λ writes. (c.in-Ok.script, c.in-Ok.ensures.means, writes)) c.play-played.ensures.plays

pub returns-in-Ok-clause-begun : goal.returns-in-Ok-clause-begun
returns-in-Ok-clause-begun g c =
    both_faults c.play-played.result
    (λ fault why begun. input_begun (g.S.Source.left c.args.source.now) (g.K.Sink.written c.args.sink.now) (g.K.Sink.written c.play-played.new.sink) c.in-Ok.script fault c.in-Ok.ensures.means why begun)
    c.play-played.ensures.err c.play-played.ensures.begun

-- there is no script
pub returns-in-Err-clause-begun : goal.returns-in-Err-clause-begun
returns-in-Err-clause-begun g c = nothing_begun (g.S.Source.left c.args.source.now) (g.K.Sink.written c.args.sink.now) c.in-Err.fault c.in-Err.ensures.err

pub returns-in-Err-clause-last : goal.returns-in-Err-clause-last
returns-in-Err-clause-last g c = input_is_not_last g.K.Sink (g.S.Source.left c.args.source.now) c.args.sink.now c.in-Err.fault c.in-Err.ensures.err
