use Rattle.std.proofs.Common.{take}
use Rattle.std.specs.List.{flat_map}
use Rattle.wf_spelling.specs.Canon.{part_lines}
use Rattle.wf_block.specs.Spelling.{text_of}
use Rattle.wf_spelling.specs.Draft.{Writes}
use Rattle.wf_spelling.proofs.feature.push_parts.Given as goal

-- written so far: what was there, and the elements before this one
abbrev pub invariant-loop-part : goal.invariant-loop-part
invariant-loop-part l = Writes l.initial.out (text_of (flat_map part_lines (take l.part-index l.parts))) l.out
