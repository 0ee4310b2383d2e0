use Rattle.wf_model.proofs.Runs.{comes_back_leaves, comes_back_stands, comes_back_definition, new_round_leaves, new_round_asks}
use Rattle.wf_model.proofs.stopped_proposer.Goals as goal

pub returns : goal.returns
returns c = record { leaves = comes_back_leaves; proposal = comes_back_stands; definition = comes_back_definition; new_round = new_round_leaves; asked = new_round_asks }
