-- The layers of a map so far: one more, and each in turn.
use Rattle.std.proofs.Common.{◌≡◌, ℕ, ◌+◌, ◌-◌, ◌<◌, ◌≤◌, false, List, [], ◌∷◌, ◌++◌, length, length-append, arith, refl, ap, ◌∙◌}
use Rattle.std.specs.Prelude.{sum_by}
use Rattle.std.proofs.lemmas.List.Elements.{All-push}
use Rattle.std.proofs.lemmas.List.Sums.{sum_by_push, sum_by-append, sum_by-cons}
use Rattle.wf_def.specs.Limits.{IsLayerName, has_layer, layer_names, points_of_feature, feature_count, point_count}
use Rattle.wf_def.specs.Limit.{most_layers, most_features, most_points}
use Rattle.wf_feature.specs.Layers.{AreGathered, features_left, points_left}
use Rattle.wf_block.specs.Grammar.{all_differ}
use Rattle.wf_feature.proofs.Unlike.{Entry, differ-push, differ-in}

abbrev features_in : Entry → ℕ
features_in entry = length entry.1.features

abbrev points_in : Entry → ℕ
points_in entry = sum_by points_of_feature entry.1.features

-- an empty list is within the limits of a map
pub no_layers : AreGathered [] most_features most_points
unfolding all_differ
no_layers = record { names = λ k d below. absurd (omega arith); most = omega arith; unlike = refl; features = omega arith; points = omega arith }

-- with one more layer the list is within the limits of a map
pub one_more : (others : List Entry) (features points : ℕ) (x : Entry) → AreGathered others features points → IsLayerName x.0 → length others < most_layers → has_layer others x.0 ≡ false →
    features_in x ≤ features → points_in x ≤ points → AreGathered (others ++ x ∷ []) (features - features_in x) (points - points_in x)
one_more others features points x gathered name room new fewer less = record {
  names = All-push (λ entry. IsLayerName entry.0) others x gathered.names name;
  most = omega (arith, length-append others (x ∷ []), room);
  unlike = differ-push others x gathered.unlike new;
  features = omega (arith, sum_by_push features_in others x, gathered.features, fewer);
  points = omega (arith, sum_by_push points_in others x, gathered.points, less);
}

-- the counters are how many more features and points the map may have
pub left_over : (layers : List Entry) (features points : ℕ) → AreGathered layers features points → (features ≡ features_left layers) × (points ≡ points_left layers)
unfolding features_left points_left
left_over layers features points gathered = (omega (arith, gathered.features), omega (arith, gathered.points))

-- each layer in turn may be added to those before it
pub record InTurn (before : List Entry) (x : Entry) : Type 0 where
  pub new : has_layer before x.0 ≡ false
  pub room : length before < most_layers
  pub features : feature_count before + length x.1.features ≤ most_features
  pub points : point_count before + sum_by points_of_feature x.1.features ≤ most_points

pub in_turn : (layers : List Entry) (features points : ℕ) → AreGathered layers features points → (before : List Entry) (x : Entry) (rest : List Entry) → before ++ x ∷ rest ≡ layers → InTurn before x
in_turn layers features points gathered before x rest is = record {
  new = differ-in before x rest (ap (λ (l : List Entry). all_differ (layer_names l)) is ∙ gathered.unlike);
  room = omega (arith, length-append before (x ∷ rest), ap length is, gathered.most);
  features = omega (arith, sum_by-append features_in before (x ∷ rest), sum_by-cons features_in x rest, ap (sum_by features_in) is, gathered.features);
  points = omega (arith, sum_by-append points_in before (x ∷ rest), sum_by-cons points_in x rest, ap (sum_by points_in) is, gathered.points);
}
