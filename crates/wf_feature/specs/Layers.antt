-- The layers of a map while it is read: their names, and how many features and points may come
-- after them.
use Rattle.std.specs.Prelude.{◌≡◌, ◌↔◌, ℕ, ◌-◌, Bool, true, not, ◌&&◌, ◌==◌, nat_lt, List, length, ◌+◌, ◌≤◌, All}
use Rattle.std.specs.List.{list_any}
use Rattle.wf_def.specs.Definition.{LayerDefinition}
use Rattle.wf_def.specs.Text.{IsText}
use Rattle.wf_def.specs.Limits.{IsLayerName, feature_count, point_count, layer_names}
use Rattle.wf_def.specs.Limit.{most_features, most_points, most_layers}
use Rattle.wf_block.specs.Grammar.{all_differ}

-- whether a text may be a layer's name: it isn't empty and has no comma (44)
unfoldable pub is_layer_name : List ℕ → Bool
is_layer_name name = nat_lt 0 (length name) && not (list_any (λ b. b == 44) name)

-- the test is true iff the text is a layer's name by the limits of a map
abbrev pub LayerNamesAreTested : Type 0
LayerNamesAreTested = (name : List ℕ) → IsText name → (is_layer_name name ≡ true) ↔ IsLayerName name

-- how many features and points the map may have after these layers
unfoldable pub features_left : List (List ℕ × LayerDefinition) → ℕ
features_left layers = most_features - feature_count layers

unfoldable pub points_left : List (List ℕ × LayerDefinition) → ℕ
points_left layers = most_points - point_count layers

-- layers of distinct names, after which that many more features and points may come
pub record AreGathered (layers : List (List ℕ × LayerDefinition)) (more_features more_points : ℕ) : Type 0 where
  pub names : All (λ entry. IsLayerName entry.0) layers
  pub most : length layers ≤ most_layers
  pub unlike : all_differ (layer_names layers) ≡ true
  pub features : feature_count layers + more_features ≡ most_features
  pub points : point_count layers + more_points ≡ most_points
