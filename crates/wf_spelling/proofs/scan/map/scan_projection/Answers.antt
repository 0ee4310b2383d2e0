use Rattle.wf_spelling.specs.Canon.{end_line}
use Rattle.wf_block.specs.Spelling.{line}
use Rattle.wf_spelling.proofs.ScanSequences.{both, last_line}
use Rattle.wf_spelling.proofs.scan.map.scan_projection.Goals as goal

pub returns : goal.returns
unfolding line
returns c =
    both c.scan_alone.ensures (both (both (rw (c.as_bytes.ensures.value, c.projection_text.ensures) at c.scan_quoted.ensures) c.take.ensures) (last_line end_line c.scan_alone-2.ensures))
