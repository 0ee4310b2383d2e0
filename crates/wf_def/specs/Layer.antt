-- Which parts make a feature, and which make a layer.
use Rattle.std.specs.Prelude.{◌≡◌, ◌↔◌, ℕ, Bool, true, ◌&&◌, nat_lt, nat_le, List, length, Option, Some, None, if◌then◌else◌}
use Rattle.std.specs.List.{list_all}
use Rattle.wf_def.specs.Definition.{LayerDefinition, ClassDefinition, FeatureDefinition}
use Rattle.wf_def.specs.Limits.{HasEnoughPoints, least_points}
use Rattle.wf_def.specs.declared.point.Point.{Point}
use Rattle.wf_def.specs.declared.choice.LayerKind.{LayerKind}
use Rattle.wf_def.specs.Limit.{most_items_bytes}

-- the feature of these parts and texts, if there is a part
unfoldable pub feature_of : List (List Point) → List ℕ → List ℕ → Option FeatureDefinition
feature_of parts items text = if nat_lt 0 (length parts) then Some (record { parts = parts; items = items; text = text }) else None

-- each part of the feature has the points that the kind needs
abbrev pub has_enough_points : LayerKind → FeatureDefinition → Bool
has_enough_points kind f = list_all (λ part. nat_le (least_points kind) (length part)) f.parts

-- the test is true iff each part has them
abbrev pub EnoughPointsAreTested : Type 0
EnoughPointsAreTested = (kind : LayerKind) (f : FeatureDefinition) → (has_enough_points kind f ≡ true) ↔ HasEnoughPoints kind f

-- the layer of these parts, if the list of attributes isn't too long and each shape has the points
-- that the kind needs
unfoldable pub layer_of : LayerKind → List ℕ → List ℕ → List ℕ → List ℕ → List ClassDefinition → List FeatureDefinition → Option LayerDefinition
layer_of kind title class_item label_item items classes features =
    if nat_le (length items) most_items_bytes && list_all (has_enough_points kind) features
    then Some (record { kind = kind; title = title; class_item = class_item; label_item = label_item; items = items; classes = classes; features = features })
    else None
