use Rattle.std.proofs.Common.{take}
use Rattle.std.specs.List.{flat_map}
use Rattle.wf_spelling.specs.Canon.{style_lines}
use Rattle.wf_block.specs.Spelling.{text_of}
use Rattle.wf_spelling.specs.Draft.{Writes}
use Rattle.wf_spelling.proofs.class.push_styles.Given as goal

-- written so far: what was there, and the elements before this one
abbrev pub invariant-loop-style : goal.invariant-loop-style
invariant-loop-style l = Writes l.initial.out (text_of (flat_map style_lines (take l.style-index l.styles))) l.out
