use Rattle.std.proofs.Common.{take}
use Rattle.std.specs.List.{flat_map}
use Rattle.wf_spelling.specs.Canon.{feature_lines}
use Rattle.wf_block.specs.Spelling.{text_of}
use Rattle.wf_spelling.specs.Draft.{Writes}
use Rattle.wf_spelling.proofs.layer.push_features.Given as goal

-- written so far: what was there, and the elements before this one
abbrev pub invariant-loop-feature : goal.invariant-loop-feature
invariant-loop-feature l = Writes l.initial.out (text_of (flat_map feature_lines (take l.feature-index l.features))) l.out
