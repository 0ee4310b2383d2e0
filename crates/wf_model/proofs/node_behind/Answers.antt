use Rattle.wf_model.proofs.Runs.{behind_leaves, behind_asks, catches_up_leaves, catches_up_asks, caught_up}
use Rattle.wf_model.proofs.node_behind.Goals as goal

pub returns : goal.returns
returns c = record { leaves = behind_leaves; asked = behind_asks; caught_up = catches_up_leaves; caught_up_by = catches_up_asks; full = caught_up }
