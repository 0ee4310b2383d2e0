use Rattle.wf_spelling.proofs.ScanSequences.{both}
use Rattle.wf_spelling.proofs.scan.line.scan_quoted.Goals as goal

pub returns : goal.returns
returns c =
    both (rw c.quote_for-quote.ensures at c.take.ensures) (both c.take-2.ensures (rw c.quote_for-quote.ensures at c.take-3.ensures))
