use Rattle.std.proofs.Common.{◌∙◌, [], refl, subst}
use Rattle.wf_http.specs.WriteEnd.{IsWriting}
use Rattle.wf_http.proofs.Written.{lines_are_head}
use Rattle.wf_http.proofs.response.Response.put_lines.Goals as goal

pub returns : goal.returns
returns g c = λ first before.
    let done = c.put-10.ensures first _ (c.put_allow_line.ensures first _ (c.put-9.ensures first _ (c.put-8.ensures first _
    (c.put-7.ensures first _ (c.put-6.ensures first _ (c.put-5.ensures first _ (c.put-4.ensures first _
    (c.put-3.ensures first _ (c.put-2.ensures first _ (c.put.ensures first [] before)))))))))) in
    subst (λ bytes. IsWriting g.K.Sink first bytes c.put-10.new.sink c.put-10.new.progress.written c.put-10.new.progress.failed)
    (lines_are_head c.args.self.now _ _ _ _ _
    (rw (← c.self.view_is) (c.as_bytes.ensures.value ∙ c.as_str.ensures))
    (rw (← c.self.view_is) (c.as_bytes-2.ensures.value ∙ c.reason.ensures))
    (rw (← c.self.view_is) c.as_bytes-3.ensures.value)
    (rw (← c.self.view_is) (c.as_bytes-4.ensures.value ∙ c.format.ensures.text))
    (rw (← c.self.view_is) refl))
    done
