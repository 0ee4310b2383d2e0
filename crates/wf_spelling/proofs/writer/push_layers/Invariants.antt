use Rattle.std.proofs.Common.{take}
use Rattle.std.specs.List.{flat_map}
use Rattle.wf_spelling.specs.Canon.{layer_lines}
use Rattle.wf_block.specs.Spelling.{text_of}
use Rattle.wf_spelling.specs.Draft.{Writes}
use Rattle.wf_spelling.proofs.writer.push_layers.Given as goal

-- written so far: what was there, and the elements before this one
abbrev pub invariant-loop-index : goal.invariant-loop-index
invariant-loop-index l = Writes l.initial.out (text_of (flat_map layer_lines (take l.index l.map.layers))) l.out
