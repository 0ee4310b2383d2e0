use Rattle.std.proofs.Common.{take, map}
use Rattle.wf_spelling.specs.Canon.{point_line}
use Rattle.wf_block.specs.Spelling.{text_of}
use Rattle.wf_spelling.specs.Draft.{Writes}
use Rattle.wf_spelling.proofs.feature.push_points.Given as goal

-- written so far: what was there, and the elements before this one
abbrev pub invariant-loop-point : goal.invariant-loop-point
invariant-loop-point l = Writes l.initial.out (text_of (map point_line (take l.point-index l.points))) l.out
