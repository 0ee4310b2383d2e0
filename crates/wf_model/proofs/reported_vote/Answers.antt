use Rattle.wf_model.proofs.Runs.{taken_over_leaves, taken_over_stands, taken_over_other, taken_over_definition, two_reported_asks}
use Rattle.wf_model.proofs.reported_vote.Goals as goal

pub returns : goal.returns
returns c = record { leaves = taken_over_leaves; taken = taken_over_stands; other = taken_over_other; definition = taken_over_definition; two = two_reported_asks }
