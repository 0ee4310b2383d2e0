use Rattle.wf_ballot.specs.FieldTheorems.{nodes_are_distinct, sequences_are_distinct, rounds_are_distinct, ballots_are_distinct}
use Rattle.wf_ballot.proofs.front.fields_are_distinct.Goals as goal

pub returns : goal.returns
returns c = record {
  nodes = nodes_are_distinct;
  sequences = sequences_are_distinct;
  rounds = rounds_are_distinct;
  ballots = ballots_are_distinct;
}
