use Rattle.wf_spelling.proofs.ScanSequences.{both, if_some}
use Rattle.wf_block.specs.Spelling.{line}
use Rattle.wf_spelling.proofs.scan.line.scan_with_expression.Goals as goal

pub returns : goal.returns
unfolding line
returns c =
    if_some c.scan_expression-expression.result (λ e scanned. both (rw c.as_bytes.ensures.value at c.take.ensures) (both c.take-2.ensures (both scanned c.take-3.ensures))) c.scan_expression-expression.ensures
