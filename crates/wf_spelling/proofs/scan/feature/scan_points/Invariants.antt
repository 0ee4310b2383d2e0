use Rattle.std.proofs.Common.{map}
use Rattle.wf_block.specs.Spelling.{text_of}
use Rattle.wf_spelling.specs.Canon.{point_line}
use Rattle.wf_spelling.specs.Scan.{Scans}
use Rattle.wf_spelling.proofs.scan.feature.scan_points.Given as goal

-- the lines so far are those of the elements so far
abbrev pub invariant-loop : goal.invariant-loop
invariant-loop l = Scans l.fn.cursor (text_of (map point_line l.part)) l.cursor
