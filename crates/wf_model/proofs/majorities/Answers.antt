use Rattle.wf_model.proofs.Runs.{alone_leaves, alone_stands, three_leave, two_of_four_leave, three_of_four_leave}
use Rattle.wf_model.proofs.majorities.Goals as goal

pub returns : goal.returns
returns c = record { one = alone_leaves; proposal = alone_stands; three = three_leave; two_of_four = two_of_four_leave; three_of_four = three_of_four_leave }
