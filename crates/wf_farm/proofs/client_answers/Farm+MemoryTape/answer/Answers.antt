-- The node that runs there answered.
use Rattle.std.proofs.Common.{◌∙◌}
use Rattle.wf_farm.proofs.Answered.{answered}
use Rattle.wf_farm.proofs.client_answers.Farm+MemoryTape.answer.Goals as goal

pub returns-in-Ok-clause-answer : goal.returns-in-Ok-clause-answer
returns-in-Ok-clause-answer c =
    answered c.args.self.now c.args.number c.number.result c.in-Some.node.now c.history-history.result.now.definitions c.args.query.now c.in-Ok.answer
    c.in-Some.ensures c.history-history.ensures (c.number.ensures.value ∙ c.published.ensures.value) c.in-Ok.ensures
