use Rattle.std.proofs.Common.{[], ◌∷◌, ◌++◌}
use Rattle.std.specs.List.{flat_map}
use Rattle.wf_spelling.specs.Canon.{canon, heading_lines, projection_lines, web_lines, layer_lines, end_line}
use Rattle.wf_spelling.proofs.ScanSequences.{lines, last_line}
use Rattle.wf_spelling.proofs.scan.map.scan_map.Goals as goal

pub returns-in-Ok : goal.returns-in-Ok
unfolding canon
returns-in-Ok c =
    let m = c.in_ok-map.map in
    let layers = flat_map layer_lines c.in-Some.layers in
    rw (c.fit.ensures, c.in-Ok.ensures)
    (lines (heading_lines m ++ projection_lines m.projection ++ web_lines m) (layers ++ end_line ∷ []) c.in_ok-map.ensures.scanned
    (lines layers (end_line ∷ []) c.in-Some.ensures (last_line end_line c.scan_alone.ensures)))
