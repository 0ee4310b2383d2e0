use Rattle.std.proofs.Common.{subst, arith}
use Rattle.wf_http.specs.WriteEnd.{IsWriting}
use Rattle.wf_http.proofs.WriteEndTheorem.{rest_of_first, rest_of_second}
use Rattle.wf_http.proofs.response.put_rest.Goals as goal

pub returns-then-count-one : goal.returns-then-count-one
returns-then-count-one g c = λ first bytes before.
    let done = c.put-then-count-one.ensures first _ (c.put.ensures first _ before) in
    subst (λ all. IsWriting g.K.Sink first all c.put-then-count-one.new.sink c.put-then-count-one.new.progress.written c.put-then-count-one.new.progress.failed)
    (rest_of_first bytes c.args.one.now c.args.two.now _ c.args.count (omega arith) c.split_at.ensures.back) done

pub returns-else-count-one : goal.returns-else-count-one
returns-else-count-one g c = λ first bytes before.
    let done = c.put-else-count-one.ensures first _ before in
    subst (λ all. IsWriting g.K.Sink first all c.put-else-count-one.new.sink c.put-else-count-one.new.progress.written c.put-else-count-one.new.progress.failed)
    (rest_of_second bytes c.args.one.now c.args.two.now _ c.args.count (omega arith) c.split_at-else-count-one.ensures.back) done
