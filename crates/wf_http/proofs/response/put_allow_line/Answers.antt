use Rattle.std.proofs.Common.{◌∙◌, subst}
use Rattle.wf_http.specs.WriteEnd.{IsWriting}
use Rattle.wf_http.proofs.Written.{allow_line_is}
use Rattle.wf_http.proofs.response.put_allow_line.Goals as goal

pub returns-in-Some : goal.returns-in-Some
returns-in-Some g c = λ first bytes before.
    let done = c.put-in-Some-2.ensures first _ (c.put-in-Some.ensures first _ (c.put.ensures first bytes before)) in
    let name = c.as_bytes.ensures.value ∙ (c.as_str.ensures.value ∙ c.method-method.ensures) in
    subst (λ all. IsWriting g.K.Sink first all c.put-in-Some-2.new.sink c.put-in-Some-2.new.progress.written c.put-in-Some-2.new.progress.failed)
    (allow_line_is bytes _ c.args.allowed c.in-Some.allowed c.in-Some.is name) done
