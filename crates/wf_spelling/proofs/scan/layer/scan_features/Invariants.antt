use Rattle.std.specs.List.{flat_map}
use Rattle.wf_block.specs.Spelling.{text_of}
use Rattle.wf_spelling.specs.Canon.{feature_lines}
use Rattle.wf_spelling.specs.Scan.{Scans}
use Rattle.wf_spelling.proofs.scan.layer.scan_features.Given as goal

-- the lines so far are those of the elements so far
abbrev pub invariant-loop : goal.invariant-loop
invariant-loop l = Scans l.fn.cursor (text_of (flat_map feature_lines l.features)) l.cursor
