-- The order of a map's labels: all labels, sorted by three numbers.
use Rattle.std.specs.Prelude.{◌≡◌, ℕ, List, [], Option, Some, None, map, slice_get, option_map, IsPermutation, IsSorted}
use Rattle.std.specs.List.{enumerate_from, filter_map, flat_map}
use Rattle.std.specs.Ordering.{nat_cmp, ordering_then}
use Rattle.std.specs.declared.cmp.Ordering.{Ordering}
use Rattle.wf_def.specs.Definition.{Definition, LayerDefinition, FeatureDefinition}
use Rattle.wf_def.specs.Limits.{IsWithinLimits}
use Rattle.wf_geometry.specs.View.{ViewValue}
use Rattle.wf_label.specs.Label.{candidates}
use Rattle.wf_label.specs.Placed.{PlacedValue}
use Rattle.wf_label.specs.Walk.{CandidateValue, candidate_of}

-- A label with its three sort keys: its priority, the index of its layer in the list, and the index
-- of its feature in that layer.
pub record RankedLabel : Type 0 where
  pub priority : ℕ
  pub layer : ℕ
  pub feature : ℕ
  pub label : PlacedValue

-- ---- all labels

-- a label with the indices of its layer and feature
abbrev pub ranked : ℕ → ℕ → CandidateValue → RankedLabel
ranked layer feature c = record { priority = c.priority; layer = layer; feature = feature; label = c.label }

-- the label of a feature, if it has one, with the feature's index in the layer
unfoldable pub ranked_label : ViewValue → ℕ → LayerDefinition → ℕ × FeatureDefinition → Option RankedLabel
ranked_label view number layer feature = option_map (ranked number feature.0) (candidate_of view layer feature.1)

-- the labels of a layer, feature by feature
abbrev pub ranked_labels : ViewValue → ℕ → Option (List ℕ × LayerDefinition) → List RankedLabel
ranked_labels view number None = []
ranked_labels view number (Some entry) = filter_map (ranked_label view number entry.1) (enumerate_from 0 entry.1.features)

-- all labels of the listed layers, layer by layer, from the first to the last; a layer is listed by
-- its index in the map
unfoldable pub all_labels : Definition → List ℕ → ViewValue → List RankedLabel
all_labels definition layers view =
    flat_map (λ listed. ranked_labels view listed.0 (slice_get definition.layers listed.1)) (enumerate_from 0 layers)

-- ---- sorted

-- the higher priority first; within a priority, the layer that is listed later; within a layer, the
-- earlier feature
abbrev pub label_order : RankedLabel → RankedLabel → Ordering
label_order a b = ordering_then (nat_cmp b.priority a.priority) (ordering_then (nat_cmp b.layer a.layer) (nat_cmp a.feature b.feature))

-- the list has all labels, each once, and is sorted
pub record IsInLabelOrder (definition : Definition) (layers : List ℕ) (view : ViewValue) (labels : List RankedLabel) : Type 0 where
  pub all : IsPermutation (all_labels definition layers view) labels
  pub sorted : IsSorted label_order labels

-- there is exactly one such list, and `candidates` lists its labels
pub record HasOneLabelOrder (definition : Definition) (layers : List ℕ) (view : ViewValue) : Type 0 where
  pub order : List RankedLabel
  pub is : IsInLabelOrder definition layers view order
  pub only : (others : List RankedLabel) → IsInLabelOrder definition layers view others → others ≡ order
  pub listed : candidates definition layers view ≡ map (λ entry. entry.label) order

-- for every map within the limits, every list of layers and every view
abbrev pub CandidatesAreSorted : Type 0
CandidatesAreSorted = (definition : Definition) (layers : List ℕ) (view : ViewValue) → IsWithinLimits definition → HasOneLabelOrder definition layers view
