use Rattle.wf_spelling.proofs.ScanSequences.{both}
use Rattle.wf_block.specs.Spelling.{line}
use Rattle.wf_spelling.proofs.scan.line.scan_alone.Goals as goal

pub returns : goal.returns
unfolding line
returns c =
    both (rw c.as_bytes.ensures.value at c.take.ensures) c.take-2.ensures
