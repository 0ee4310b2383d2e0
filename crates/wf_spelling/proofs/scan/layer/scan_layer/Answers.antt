use Rattle.std.proofs.Common.{[], ◌∷◌, ◌++◌}
use Rattle.std.specs.List.{flat_map}
use Rattle.wf_spelling.specs.Canon.{class_lines, feature_lines, end_line}
use Rattle.wf_spelling.specs.Scan.{layer_heading_lines}
use Rattle.wf_spelling.proofs.ScanSequences.{both, lines, last_line, if_some}
use Rattle.wf_spelling.proofs.scan.layer.scan_layer.Goals as goal

pub returns-clause-scanned : goal.returns-clause-scanned
returns-clause-scanned c =
    let h = c.in_ok-heading.heading in
    let classes = flat_map class_lines c.in-Some.classes in
    let features = flat_map feature_lines c.in-Some-scan_features.features in
    if_some c.whole_layer.result (λ read is. rw (is.name, is.layer)
    (both c.scan_alone.ensures
    (lines (layer_heading_lines h.name h.kind h.class_item h.label_item h.items h.title) (classes ++ features ++ end_line ∷ []) c.in_ok-heading.ensures
    (lines (classes ++ features) (end_line ∷ [])
    (lines classes features c.in-Some.ensures c.in-Some-scan_features.ensures) (last_line end_line c.scan_alone-2.ensures))))) c.whole_layer.ensures.value
