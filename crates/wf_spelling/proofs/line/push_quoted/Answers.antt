use Rattle.wf_spelling.proofs.WriteSequences.{both}
use Rattle.wf_spelling.proofs.line.push_quoted.Goals as goal

pub returns : goal.returns
returns c =
    both (rw c.quote_for-quote.ensures at c.push.ensures.bytes) (both c.push-2.ensures.bytes (rw c.quote_for-quote.ensures at c.push-3.ensures.bytes))
