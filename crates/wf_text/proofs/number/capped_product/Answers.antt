use Rattle.std.proofs.Common.{◌+◌}
use Rattle.wf_text.specs.Limit.{most_millionths}
use Rattle.wf_text.proofs.NumberLemmas.{capped_product-more}
use Rattle.wf_text.proofs.number.capped_product.Goals as goal

pub loop-done-preserved : goal.loop-done-preserved
loop-done-preserved c = let more = capped_product-more c.args.value c.loop-done._done (most_millionths + 1) in cc
