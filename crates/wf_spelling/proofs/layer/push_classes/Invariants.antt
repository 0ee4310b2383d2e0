use Rattle.std.proofs.Common.{take}
use Rattle.std.specs.List.{flat_map}
use Rattle.wf_spelling.specs.Canon.{class_lines}
use Rattle.wf_block.specs.Spelling.{text_of}
use Rattle.wf_spelling.specs.Draft.{Writes}
use Rattle.wf_spelling.proofs.layer.push_classes.Given as goal

-- written so far: what was there, and the elements before this one
abbrev pub invariant-loop-class : goal.invariant-loop-class
invariant-loop-class l = Writes l.initial.out (text_of (flat_map class_lines (take l.class-index l.classes))) l.out
