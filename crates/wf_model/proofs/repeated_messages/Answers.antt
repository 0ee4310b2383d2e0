use Rattle.wf_model.proofs.Runs.{repeated_leaves, voted_once_leaves, voted_once_answers}
use Rattle.wf_model.proofs.repeated_messages.Goals as goal

pub returns : goal.returns
returns c = record { leaves = repeated_leaves; voted_once = voted_once_leaves; answers = voted_once_answers }
