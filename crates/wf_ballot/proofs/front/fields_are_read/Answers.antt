use Rattle.wf_ballot.specs.FrontTheorems.{reads_nodes, reads_slots, reads_ballots, reads_rounds}
use Rattle.wf_ballot.proofs.front.fields_are_read.Goals as goal

pub returns : goal.returns
returns c = record {
  nodes = reads_nodes;
  slots = reads_slots;
  ballots = reads_ballots;
  rounds = reads_rounds;
}
