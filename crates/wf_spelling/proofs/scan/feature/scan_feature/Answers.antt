use Rattle.std.proofs.Common.{[], ◌∷◌, refl}
use Rattle.std.specs.List.{flat_map}
use Rattle.wf_spelling.specs.Canon.{part_lines, end_line}
use Rattle.wf_spelling.proofs.ScanSequences.{both, lines, last_line}
use Rattle.wf_spelling.proofs.ScannedBlock.{feature_is, feature_line, end_line_scanned}
use Rattle.wf_block.specs.Spelling.{line}
use Rattle.wf_spelling.proofs.scan.feature.scan_feature.Goals as goal

pub scan_with_rare_text-requires : goal.scan_with_rare_text-requires
unfolding line
scan_with_rare_text-requires c = refl

pub scan_with_rare_text-requires-2 : goal.scan_with_rare_text-requires-2
unfolding line
scan_with_rare_text-requires-2 c = refl

pub returns : goal.returns
returns c =
    feature_is c.in-Some-scan_parts.parts c.in_ok-items.items c.in-Some.text c.new.result c.new.ensures
    (both (feature_line c.take.ensures) (both c.in_ok-items.ensures (both c.in-Some.ensures
    (lines (flat_map part_lines c.in-Some-scan_parts.parts) (end_line ∷ []) c.in-Some-scan_parts.ensures (last_line end_line (end_line_scanned c.take-2.ensures))))))
