use Rattle.wf_ballot.specs.OrderTheorems.{below-irreflexive, below-transitive, not_below-antisymmetric}
use Rattle.wf_ballot.proofs.ballot.order_is_total.Goals as goal

pub returns : goal.returns
returns c = record {
  irreflexive = below-irreflexive;
  transitive = below-transitive;
  total = not_below-antisymmetric;
}
