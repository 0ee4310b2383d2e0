use Rattle.std.proofs.Common.{map, [], ◌∷◌}
use Rattle.wf_spelling.specs.Canon.{point_line, end_line}
use Rattle.wf_spelling.proofs.ScanSequences.{both, lines, last_line, if_some}
use Rattle.wf_spelling.proofs.ScannedBlock.{end_line_scanned}
use Rattle.wf_spelling.proofs.scan.feature.scan_part.Goals as goal

pub returns : goal.returns
returns c =
    if_some c.scan_points-part.result (λ part scanned. both c.scan_alone.ensures (lines (map point_line part) (end_line ∷ []) scanned (last_line end_line (end_line_scanned c.take.ensures)))) c.scan_points-part.ensures
