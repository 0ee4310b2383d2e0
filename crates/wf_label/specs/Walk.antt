-- The labels of a map as one walk through its layers meets them, each with its priority.
use Rattle.std.specs.Prelude.{ℕ, ◌==◌, List, [], ◌∷◌, map, reverse, Option, Some, None, slice_get, if◌then◌else◌}
use Rattle.std.specs.List.{filter_map, flat_map}
use Rattle.wf_def.specs.Attribute.{class_of}
use Rattle.wf_def.specs.Definition.{Definition, LayerDefinition, LabelDefinition, FeatureDefinition}
use Rattle.wf_geometry.specs.Operation.{class_at}
use Rattle.wf_geometry.specs.View.{ViewValue}
use Rattle.wf_label.specs.Anchor.{anchor_of}
use Rattle.wf_label.specs.Label.{at_anchor, class_label, text_of}
use Rattle.wf_label.specs.Placed.{PlacedValue, placed_value}
use Rattle.wf_label.specs.declared.feature_anchor.Anchor.{Anchor}
use Rattle.wf_label.specs.declared.label_order.Candidate.{Candidate}

pub record CandidateValue : Type 0 where
  pub priority : ℕ
  pub label : PlacedValue

-- the values of the code's candidates
abbrev pub candidate_value : Candidate → CandidateValue
candidate_value c = record { priority = c.priority; label = placed_value c.label }

abbrev pub candidate_values : List Candidate → List CandidateValue
candidate_values candidates = map candidate_value candidates

-- a label has a text and an anchor: an empty text and a shape without a point have no label
abbrev pub with_priority : Option LabelDefinition → List ℕ → Option Anchor → Option CandidateValue
with_priority None text anchor = None
with_priority (Some label) [] anchor = None
with_priority (Some label) (b ∷ rest) None = None
with_priority (Some label) (b ∷ rest) (Some anchor) = Some (record { priority = label.priority; label = at_anchor label (b ∷ rest) anchor })

-- the label of a feature, of any priority
unfoldable pub candidate_of : ViewValue → LayerDefinition → FeatureDefinition → Option CandidateValue
candidate_of view layer feature =
    with_priority (class_label (class_at layer (class_of layer feature))) (text_of layer feature) (anchor_of view feature.parts)

-- of one layer: in the order of its features
unfoldable pub layer_candidates : ViewValue → LayerDefinition → List CandidateValue
layer_candidates view layer = filter_map (candidate_of view layer) layer.features

abbrev pub entry_candidates : ViewValue → Option (List ℕ × LayerDefinition) → List CandidateValue
entry_candidates view None = []
entry_candidates view (Some entry) = layer_candidates view entry.1

-- of all layers: the layer requested last comes first; a layer is its index in the map
unfoldable pub walk : Definition → List ℕ → ViewValue → List CandidateValue
walk map layers view = flat_map (λ i. entry_candidates view (slice_get map.layers i)) (reverse layers)

-- the label, if it is of the priority
abbrev pub if_of_priority : ℕ → CandidateValue → Option PlacedValue
if_of_priority priority candidate = if candidate.priority == priority then Some candidate.label else None

-- those of a priority, in their order
unfoldable pub chosen : ℕ → List CandidateValue → List PlacedValue
chosen priority candidates = filter_map (if_of_priority priority) candidates
