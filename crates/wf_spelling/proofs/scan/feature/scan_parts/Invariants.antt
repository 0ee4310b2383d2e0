use Rattle.std.specs.List.{flat_map}
use Rattle.wf_block.specs.Spelling.{text_of}
use Rattle.wf_spelling.specs.Canon.{part_lines}
use Rattle.wf_spelling.specs.Scan.{Scans}
use Rattle.wf_spelling.proofs.scan.feature.scan_parts.Given as goal

-- the lines so far are those of the elements so far
abbrev pub invariant-loop : goal.invariant-loop
invariant-loop l = Scans l.fn.cursor (text_of (flat_map part_lines l.parts)) l.cursor
