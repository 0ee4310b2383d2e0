-- The chains are equal step by step, or two different texts have one digest.
use Rattle.wf_digest.proofs.Chain.{chains}
use Rattle.wf_digest.proofs.theorem.equal_digests_mean_equal_histories.Goals as goal

pub returns : goal.returns
returns c = chains c.one_text_one_map.ensures
