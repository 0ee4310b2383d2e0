-- The histories are those of the nodes that are compared.
use Rattle.std.proofs.Common.{◌∙◌}
use Rattle.wf_node.specs.Node.{stored_of}
use Rattle.wf_serve.proofs.Checked.{first_is_longer, second_is_longer}
use Rattle.wf_serve.proofs.Taken.{different}
use Rattle.wf_serve.proofs.check.longer.Goals as goal

pub returns-then-number-clause-longer : goal.returns-then-number-clause-longer
returns-then-number-clause-longer c = second_is_longer (stored_of c.args.first.node) (stored_of c.args.second.node) _ _ c.number-in-None.result c.number-in-None-2.result c.history.ensures c.history-2.ensures
    (c.number-in-None.ensures.value ∙ c.published.ensures.value) (c.number-in-None-2.ensures.value ∙ c.published-in-None.ensures.value) c.in-None.ensures.none c.if-number.true

pub returns-else-number-clause-longer : goal.returns-else-number-clause-longer
returns-else-number-clause-longer c = first_is_longer (stored_of c.args.first.node) (stored_of c.args.second.node) _ _ c.number-in-None.result c.number-in-None-2.result c.history.ensures c.history-2.ensures
    (c.number-in-None.ensures.value ∙ c.published.ensures.value) (c.number-in-None-2.ensures.value ∙ c.published-in-None.ensures.value) c.in-None.ensures.none c.if-number.false

pub returns-in-Some-clause-cause : goal.returns-in-Some-clause-cause
returns-in-Some-clause-cause c =
    different c.args.first.number c.args.second.number _ _ _ _ (stored_of c.args.first.node) (stored_of c.args.second.node) c.number.ensures.value c.history.ensures c.history-2.ensures c.in-Some.ensures.some
