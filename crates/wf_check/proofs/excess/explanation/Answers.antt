use Rattle.std.proofs.Common.{◌∙◌, ap}
use Rattle.std.proofs.lemmas.Result.{IfOk-weaker}
use Rattle.wf_check.specs.Message.{excess_said}
use Rattle.wf_check.proofs.excess.explanation.Goals as goal

pub returns : goal.returns
returns c =
    let layers = c.as_str.result.now in
    IfOk-weaker c.excess_said-text.result _ _ (λ text is. (layers, is ∙ ap (λ n. excess_said n layers) c.text_length.ensures)) c.excess_said-text.ensures
