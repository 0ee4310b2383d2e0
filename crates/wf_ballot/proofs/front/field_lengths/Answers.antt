use Rattle.wf_ballot.specs.FieldTheorems.{length-node_bytes, length-seq_bytes, length-round_bytes, length-ballot_bytes}
use Rattle.wf_ballot.proofs.front.field_lengths.Goals as goal

pub returns : goal.returns
returns c = record {
  node = length-node_bytes;
  sequence = length-seq_bytes;
  round = length-round_bytes;
  ballot = length-ballot_bytes;
}
