use Rattle.wf_model.proofs.Runs.{torn_after_sent, torn_after, torn_before_sent, torn_before}
use Rattle.wf_model.proofs.torn_step.Goals as goal

pub returns : goal.returns
returns c = record { after_sent = torn_after_sent; after_leaves = torn_after; before_sent = torn_before_sent; before_leaves = torn_before }
