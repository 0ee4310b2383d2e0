-- The limits of a map definition, each once, with its unit. The constants of the code are proved
-- equal to them. Those of its texts and numbers are `wf_text`'s.
use Rattle.std.specs.Prelude.{ℕ}
pub use Rattle.wf_text.specs.Limit.{most_text_bytes, most_millionths, most_whole_digits, most_fraction_digits, most_power_digits}

-- the most layers of a map, classes of a layer and styles of a class
abbrev pub most_layers : ℕ
most_layers = 64

abbrev pub most_classes : ℕ
most_classes = 16

abbrev pub most_styles : ℕ
most_styles = 8

-- the most features and points of a map, over all its layers
abbrev pub most_features : ℕ
most_features = 2_000

abbrev pub most_points : ℕ
most_points = 20_000

-- the longest list of attribute names after a layer's `ITEMS=`, in bytes
abbrev pub most_items_bytes : ℕ
most_items_bytes = 994

-- the widest line and the largest marker, in pixels
abbrev pub most_width : ℕ
most_width = 16

abbrev pub most_size : ℕ
most_size = 64

-- the highest priority of a label; the lowest is 1
abbrev pub most_priority : ℕ
most_priority = 10

-- the widest free space around a label, in pixels
abbrev pub most_buffer : ℕ
most_buffer = 64
