use Rattle.std.proofs.Common.{subst}
use Rattle.wf_http.specs.WriteEnd.{IsWriting}
use Rattle.wf_http.proofs.WriteEndTheorem.{writing_breaks}
use Rattle.wf_http.proofs.response.put.Goals as goal

pub returns-in-Err : goal.returns-in-Err
returns-in-Err g c = λ first bytes before.
    writing_breaks g.K.Sink first c.args.sink.now c.write_all.new.sink bytes c.args.piece.now c.args.progress.now.written c.in-Err.count _
    c.in-Err.ensures.part.0 c.in-Err.ensures.part.1 c.in-Err.ensures.cause c.in-Err.ensures.last c.saturating_add-progress-in-Err.ensures
    (subst (λ failed. IsWriting g.K.Sink first bytes c.args.sink.now c.args.progress.now.written failed) c.if-progress.false before)
