use Rattle.wf_spelling.proofs.WriteSequences.{both}
use Rattle.wf_block.specs.Spelling.{line}
use Rattle.wf_spelling.proofs.layer.push_attribute_names.Goals as goal

pub returns : goal.returns
unfolding line
returns c =
    both c.push.ensures.bytes (both (rw c.quote_for-quote.ensures at c.push-2.ensures.bytes) (both c.push-3.ensures.bytes (both (both c.push-4.ensures.bytes (rw c.quote_for-quote.ensures at c.push-5.ensures.bytes)) c.push-6.ensures.bytes)))
