use Rattle.std.proofs.Common.{◌++◌, take, sym, subst}
use Rattle.wf_http.specs.WriteEnd.{IsWriting}
use Rattle.wf_http.proofs.WriteEndTheorem.{writing_begins, writing_fails}
use Rattle.wf_http.proofs.response.put_pair.Goals as goal

pub returns-in-Ok : goal.returns-in-Ok
returns-in-Ok g c = λ first bytes before.
    let piece = c.args.one.now ++ c.args.two.now in
    let so_far = subst (λ failed. IsWriting g.K.Sink first bytes c.args.sink.now c.args.progress.now.written failed) c.if-progress.false before in
    let begun = writing_begins g.K.Sink first c.args.sink.now c.write_pair.new.self bytes piece c.args.progress.now.written c.in-Ok.count _
    c.in-Ok.ensures.bound c.in-Ok.ensures.bytes c.in-Ok.ensures.cause c.saturating_add-progress.ensures so_far in
    c.put_rest.ensures first bytes (subst (λ failed. IsWriting g.K.Sink first (bytes ++ take c.in-Ok.count piece) c.write_pair.new.self c.saturating_add-progress.result failed) (sym c.if-progress.false) begun)

pub returns-in-Err : goal.returns-in-Err
returns-in-Err g c = λ first bytes before.
    let so_far = subst (λ failed. IsWriting g.K.Sink first bytes c.args.sink.now c.args.progress.now.written failed) c.if-progress.false before in
    writing_fails g.K.Sink first c.args.sink.now c.write_pair.new.self bytes (c.args.one.now ++ c.args.two.now) c.args.progress.now.written
    c.in-Err.ensures.bytes c.in-Err.ensures.cause c.in-Err.ensures.failed so_far
