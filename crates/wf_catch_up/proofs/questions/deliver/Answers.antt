-- What the node sends is dropped.
use Rattle.wf_catch_up.proofs.questions.deliver.Goals as goal

pub returns-clause-taken : goal.returns-clause-taken
returns-clause-taken g c = record { outputs = c.hand-messages.result.messages.items; takes = c.hand-messages.ensures.takes; cause = c.hand-messages.ensures.cause }
