use Rattle.std.proofs.Common.{◌≡◌, ◌++◌, flat_map, take}
use Rattle.wf_wms.specs.Capabilities.{layer_line}
use Rattle.wf_wms.proofs.capabilities.write_layer_lines.Given as goal

-- the text so far is the old text and a line for each of the first layers
abbrev pub invariant-loop-i : goal.invariant-loop-i
invariant-loop-i l = l.document.items ≡ l.initial.document.items ++ flat_map layer_line (take l.i l.map.layers)
