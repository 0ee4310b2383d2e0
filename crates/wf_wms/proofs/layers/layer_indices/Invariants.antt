use Rattle.std.proofs.Common.{◌≡◌, ◌<◌, ℕ, false, [], get_or, length, take}
use Rattle.std.specs.Prelude.{filter_map, is_none}
use Rattle.wf_wms.specs.MapRequest.{entries, layer_of}
use Rattle.wf_wms.proofs.layers.layer_indices.Given as goal

-- the names so far are layers' names, and their indices are in the list
abbrev pub invariant-loop-name : goal.invariant-loop-name
invariant-loop-name l = record {
  known : (k : ℕ) → k < length l.yielded → is_none (layer_of l.map (get_or (entries l.names) k [])) ≡ false;
  indices : l.indices.items ≡ filter_map (layer_of l.map) (take (length l.yielded) (entries l.names));
  count : length l.indices.items ≡ length l.yielded;
}
