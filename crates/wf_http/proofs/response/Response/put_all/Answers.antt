use Rattle.std.proofs.Common.{◌++◌, ◌∙◌, [], refl, ap, subst}
use Rattle.wf_http.specs.WriteEnd.{IsWriting}
use Rattle.wf_http.specs.Response.{head_bytes}
use Rattle.wf_http.proofs.WriteEndTheorem.{gathered_is, writing_starts}
use Rattle.wf_http.proofs.response.Response.put_all.Goals as goal

pub returns-then-gathering : goal.returns-then-gathering
returns-then-gathering g c = λ first before.
    let body = ap (λ r. head_bytes c.args.self.now ++ r.body) c.self.view_is in
    rw (← body) (c.put.ensures first _ (c.put_lines-then-gathering.ensures first before))

pub returns-else-gathering : goal.returns-else-gathering
returns-else-gathering g c = λ first before.
    let empty = c.new-head.result in
    let gathered = c.put_lines.ensures empty (writing_starts _ empty c.start-gathering.result c.start-gathering.ensures) in
    let is = gathered_is _ empty c.put_lines.new.sink empty.bytes.items (head_bytes c.args.self.now) c.put_lines.new.sink.bytes.items
    c.put_lines.new.progress.written c.put_lines.new.progress.failed refl refl c.new-head.ensures c.if-gathering.false gathered in
    let body = ap (λ r. head_bytes c.args.self.now ++ r.body) c.self.view_is in
    let done = subst (λ head. IsWriting g.K.Sink first (head ++ c.self.inside.body.now) c.put_pair.new.sink c.put_pair.new.progress.written c.put_pair.new.progress.failed)
    (c.bytes.ensures ∙ is) (c.put_pair.ensures first [] before) in
    rw (← body) done
