-- Which labels a map has, where their boxes are, and in which order they come.
use Rattle.std.specs.Prelude.{ℕ, ◌/◌, ◌==◌, zero, suc, List, [], ◌∷◌, ◌++◌, reverse, Option, Some, None, ℤ, pos, slice_get, if◌then◌else◌}
use Rattle.std.specs.List.{filter_map, flat_map}
use Rattle.std.specs.Option.{unwrap_or}
use Rattle.wf_def.specs.Attribute.{attribute, class_of}
use Rattle.wf_def.specs.Definition.{Definition, LayerDefinition, ClassDefinition, LabelDefinition, FeatureDefinition}
use Rattle.wf_def.specs.Limit.{most_priority}
use Rattle.wf_def.specs.declared.choice.LabelPosition.{LabelPosition}
use Rattle.wf_def.specs.declared.choice.LabelPosition.TheVariants.{UpperLeft, UpperCenter, UpperRight, CenterLeft, CenterCenter, CenterRight, LowerLeft, LowerCenter, LowerRight}
use Rattle.wf_geometry.specs.Exact.{plus, difference}
use Rattle.wf_geometry.specs.Operation.{class_at}
use Rattle.wf_geometry.specs.View.{ViewValue}
use Rattle.wf_label.specs.Anchor.{anchor_of}
use Rattle.wf_label.specs.PixelBox.{text_width, text_height}
use Rattle.wf_label.specs.Placed.{PlacedValue, scale_of}
use Rattle.wf_label.specs.declared.feature_anchor.Anchor.{Anchor}

-- ---- the text of a label

-- the feature's value under the layer's LABELITEM where there is one, else its own text
unfoldable pub text_of : LayerDefinition → FeatureDefinition → List ℕ
text_of layer feature = unwrap_or (attribute layer.items feature.items layer.label_item) feature.text

-- ---- where its box is

-- the first column of a box `width` pixels wide: it ends before the anchor's column, has it in its
-- middle, or begins after it
abbrev pub left_of : LabelPosition → ℤ → ℕ → ℤ
left_of UpperLeft column width = difference column (pos width)
left_of CenterLeft column width = difference column (pos width)
left_of LowerLeft column width = difference column (pos width)
left_of UpperCenter column width = difference column (pos (width / 2))
left_of CenterCenter column width = difference column (pos (width / 2))
left_of LowerCenter column width = difference column (pos (width / 2))
left_of UpperRight column width = plus column (pos 1)
left_of CenterRight column width = plus column (pos 1)
left_of LowerRight column width = plus column (pos 1)

-- the first row of a box `height` pixels high: it begins above the anchor's row, has it in its
-- middle, or ends below it
abbrev pub bottom_of : LabelPosition → ℤ → ℕ → ℤ
bottom_of UpperLeft row height = plus row (pos 1)
bottom_of UpperCenter row height = plus row (pos 1)
bottom_of UpperRight row height = plus row (pos 1)
bottom_of CenterLeft row height = difference row (pos (height / 2))
bottom_of CenterCenter row height = difference row (pos (height / 2))
bottom_of CenterRight row height = difference row (pos (height / 2))
bottom_of LowerLeft row height = difference row (pos height)
bottom_of LowerCenter row height = difference row (pos height)
bottom_of LowerRight row height = difference row (pos height)

-- a text at an anchor
abbrev pub at_anchor : LabelDefinition → List ℕ → Anchor → PlacedValue
at_anchor label text anchor = record {
  left = left_of label.position anchor.column (text_width (scale_of label.size) text);
  bottom = bottom_of label.position anchor.row (text_height (scale_of label.size));
  scale = scale_of label.size;
  buffer = label.buffer;
  force = label.force;
  color = label.color;
  text = text;
}

-- ---- which features have one

-- the label of the class that a feature has, if that is of the priority
abbrev pub of_priority : ℕ → Option LabelDefinition → Option LabelDefinition
of_priority priority None = None
of_priority priority (Some label) = if label.priority == priority then Some label else None

abbrev pub class_label : Option ClassDefinition → Option LabelDefinition
class_label None = None
class_label (Some class) = class.label

-- a label has a text and an anchor: an empty text and a shape without a point have no label
abbrev pub labelled : Option LabelDefinition → List ℕ → Option Anchor → Option PlacedValue
labelled None text anchor = None
labelled (Some label) [] anchor = None
labelled (Some label) (b ∷ rest) None = None
labelled (Some label) (b ∷ rest) (Some anchor) = Some (at_anchor label (b ∷ rest) anchor)

-- the label style of the feature's class, if it is of the priority
unfoldable pub label_of : ℕ → LayerDefinition → FeatureDefinition → Option LabelDefinition
label_of priority layer feature = of_priority priority (class_label (class_at layer (class_of layer feature)))

-- the label of this priority that a feature has
unfoldable pub feature_label : ViewValue → ℕ → LayerDefinition → FeatureDefinition → Option PlacedValue
feature_label view priority layer feature =
    labelled (label_of priority layer feature) (text_of layer feature) (anchor_of view feature.parts)

-- ---- all labels, in their order

-- of one layer: in the order of its features
unfoldable pub layer_labels : ViewValue → ℕ → LayerDefinition → List PlacedValue
layer_labels view priority layer = filter_map (feature_label view priority layer) layer.features

abbrev pub entry_labels : ViewValue → ℕ → Option (List ℕ × LayerDefinition) → List PlacedValue
entry_labels view priority None = []
entry_labels view priority (Some entry) = layer_labels view priority entry.1

-- of one priority: the layer requested last comes first; a layer is its index in the map
unfoldable pub labels_of : Definition → List ℕ → ViewValue → ℕ → List PlacedValue
labels_of map layers view priority = flat_map (λ i. entry_labels view priority (slice_get map.layers i)) (reverse layers)

-- of this priority and the lower ones: the highest first
unfoldable pub labels_up_to : Definition → List ℕ → ViewValue → ℕ → List PlacedValue
labels_up_to map layers view zero = []
labels_up_to map layers view (suc priority) = labels_of map layers view (suc priority) ++ labels_up_to map layers view priority

-- all
unfoldable pub candidates : Definition → List ℕ → ViewValue → List PlacedValue
candidates map layers view = labels_up_to map layers view most_priority
