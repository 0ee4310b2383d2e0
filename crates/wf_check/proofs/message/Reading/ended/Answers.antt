use Rattle.std.proofs.Common.{◌≡◌, IfOk, Some, rules, subst}
use Rattle.std.specs.String.{string_bytes}
use Rattle.wf_check.specs.Message.{Says, allowed_end}
use Rattle.wf_check.proofs.message.Reading.ended.Goals as goal

pub returns-clause-says : goal.returns-clause-says
returns-clause-says c =
    let is : c.as_str.result.now ≡ allowed_end (Some c.in-Some.block) = search rules in
    rw c.in-Some.is (subst (λ allowed. IfOk c.say-2.result (λ text. Says (string_bytes text) allowed)) is c.say-2.ensures.says)
