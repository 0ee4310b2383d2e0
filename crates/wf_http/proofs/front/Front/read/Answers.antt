-- One more piece was read, and a head was looked for in all bytes so far.
use Rattle.std.proofs.Common.{◌<◌, ◌++◌, length, arith, rules, subst}
use Rattle.wf_http.specs.Front.{IsHeadError}
use Rattle.wf_http.specs.Head.{most_head_bytes}
use Rattle.wf_http.proofs.HeadTheorem.{fault_of_http_error, head_looked_for}
use Rattle.wf_http.proofs.front.Front.read.Goals as goal

pub returns-in-Ok-Some-clause-takes : goal.returns-in-Ok-Some-clause-takes
returns-in-Ok-Some-clause-takes g c =
    let room : length c.loop-bytes.bytes.items < most_head_bytes = omega (arith, c.loop-bytes-test.true, c.len.ensures.value) in
    head_looked_for _ _ _ (g.S.Source.left c.loop-bytes.source) _ c.loop-bytes.bytes.items
    c.loop-bytes.invariant.piece c.loop-bytes.invariant.unfinished room c.loop-bytes.invariant.taken c.read_on.ensures.takes

pub returns-in-Err-parse-clause-takes : goal.returns-in-Err-parse-clause-takes
returns-in-Err-parse-clause-takes g c =
    let room : length c.loop-bytes.bytes.items < most_head_bytes = omega (arith, c.loop-bytes-test.true, c.len.ensures.value) in
    head_looked_for _ _ _ (g.S.Source.left c.loop-bytes.source) _ c.loop-bytes.bytes.items
    c.loop-bytes.invariant.piece c.loop-bytes.invariant.unfinished room c.loop-bytes.invariant.taken c.read_on.ensures.takes

pub returns-in-Err-parse-clause-err : goal.returns-in-Err-parse-clause-err
returns-in-Err-parse-clause-err g c =
    fault_of_http_error _ _ _ _ _ c.in-Ok.field-0 c.in-Err-parse.http_error c.loop-bytes.invariant.taken c.in-Ok.ensures.read (search rules)
    (λ more. subst (λ bs. IsHeadError (bs ++ more) c.in-Err-parse.http_error) c.as_slice-in-loop-bytes.ensures.value (c.in-Err-parse.ensures.refused more))
