use Rattle.wf_text.proofs.NumberLemmas.{capped_quotient-more}
use Rattle.wf_text.proofs.number.capped_quotient.Goals as goal

pub loop-done-preserved : goal.loop-done-preserved
loop-done-preserved c = let more = capped_quotient-more c.args.value c.loop-done._done in cc
