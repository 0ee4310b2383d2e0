-- The layer at an index of a map's list, and the effect of appending a layer.
use Rattle.std.proofs.Common.{◌≡◌, ℕ, ◌+◌, ◌≤◌, false, List, [], ◌∷◌, ◌++◌, length, sum_by, slice_get, Option, Some, None, All, is_some, refl, subst}
use Rattle.std.proofs.lemmas.List.Elements.{All-push}
use Rattle.std.proofs.lemmas.List.Sums.{sum_by_push, get_or-le-sum_by}
use Rattle.std.proofs.lemmas.Option.{get_or_from_slice_get, slice_get_within}
use Rattle.wf_def.specs.Definition.{LayerDefinition}
use Rattle.wf_def.specs.Limits.{IsLayer, IsLayerName, points_of_feature, point_count, feature_count}

-- an option that isn't Some is None
pub none_from_test : {A : Type 0} (o : Option A) → is_some o ≡ false → o ≡ None
none_from_test None h = refl
none_from_test (Some x) h = cc

module _ (layers : List (List ℕ × LayerDefinition)) (i : ℕ) (entry : List ℕ × LayerDefinition) (here : slice_get layers i ≡ Some entry) where
  -- each layer of the map is within the limits
  pub IsLayer-at : All (λ e. IsLayer e.1) layers → IsLayer entry.1
  IsLayer-at all = subst (λ (e : List ℕ × LayerDefinition). IsLayer e.1) (get_or_from_slice_get layers i entry entry here) (all i entry (slice_get_within layers i entry here))

  -- a layer has no more points than the map
  pub points_at : sum_by points_of_feature entry.1.features ≤ point_count layers
  points_at =
      let points : List ℕ × LayerDefinition → ℕ = λ e. sum_by points_of_feature e.1.features in
      subst (λ (e : List ℕ × LayerDefinition). points e ≤ sum_by points layers) (get_or_from_slice_get layers i entry entry here)
      (get_or-le-sum_by points layers i entry (slice_get_within layers i entry here))

module _ (layers : List (List ℕ × LayerDefinition)) (name : List ℕ) (layer : LayerDefinition) where
  pub feature_count-push : feature_count (layers ++ (name, layer) ∷ []) ≡ feature_count layers + length layer.features
  feature_count-push = sum_by_push (λ (e : List ℕ × LayerDefinition). length e.1.features) layers (name, layer)

  pub point_count-push : point_count (layers ++ (name, layer) ∷ []) ≡ point_count layers + sum_by points_of_feature layer.features
  point_count-push = sum_by_push (λ (e : List ℕ × LayerDefinition). sum_by points_of_feature e.1.features) layers (name, layer)

  pub names-push : All (λ e. IsLayerName e.0) layers → IsLayerName name → All (λ e. IsLayerName e.0) (layers ++ (name, layer) ∷ [])
  names-push all one = All-push (λ (e : List ℕ × LayerDefinition). IsLayerName e.0) layers (name, layer) all one

  pub layers-push : All (λ e. IsLayer e.1) layers → IsLayer layer → All (λ e. IsLayer e.1) (layers ++ (name, layer) ∷ [])
  layers-push all one = All-push (λ (e : List ℕ × LayerDefinition). IsLayer e.1) layers (name, layer) all one
