use Rattle.std.proofs.Common.{◌≡◌, map, rules}
use Rattle.std.proofs.lemmas.Result.{IfOk-weaker}
use Rattle.std.specs.String.{string_bytes}
use Rattle.wf_check.specs.Message.{enumerated}
use Rattle.wf_check.proofs.Messages.{listing}
use Rattle.wf_check.proofs.message.listed.Goals as goal

pub returns : goal.returns
returns c =
    let names : c.as_str.result.now ≡ enumerated (map (λ k. (k.0.now, k.1)) c.keywords_of.result.now) = search rules in
    IfOk-weaker c.with_end-text.result _ _ (λ text is. listing c.args.block _ (string_bytes text) _ _ c.keywords_of.ensures names c.name.ensures is) c.with_end-text.ensures
