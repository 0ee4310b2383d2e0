-- Which layers have enough points.
use Rattle.std.proofs.Common.{◌≡◌, ℕ, ◌≤◌, true, nat_le, List, length, All, rules, tests}
use Rattle.std.specs.List.{list_all}
use Rattle.std.proofs.lemmas.List.Sums.{AllPass-from_list_all, list_all-from_AllPass}
use Rattle.std.proofs.lemmas.List.Elements.{All-weaker}
use Rattle.wf_def.specs.Definition.{FeatureDefinition}
use Rattle.wf_def.specs.Layer.{has_enough_points}
use Rattle.wf_def.specs.Limits.{HasEnoughPoints, least_points}
use Rattle.wf_def.specs.declared.choice.LayerKind.{LayerKind}
use Rattle.wf_def.specs.declared.point.Point.{Point}

le_from_test : (a b : ℕ) → nat_le a b ≡ true → a ≤ b
le_from_test a b h = search (tests, rules)

test_from_le : (a b : ℕ) → a ≤ b → nat_le a b ≡ true
test_from_le a b h = search (tests, rules)

pub HasEnoughPoints-from_test : (kind : LayerKind) (f : FeatureDefinition) → has_enough_points kind f ≡ true → HasEnoughPoints kind f
HasEnoughPoints-from_test kind f h =
    All-weaker (λ (part : List Point). nat_le (least_points kind) (length part) ≡ true) (λ (part : List Point). least_points kind ≤ length part)
    (λ part. le_from_test _ _) f.parts (AllPass-from_list_all _ f.parts h)

pub test-from_HasEnoughPoints : (kind : LayerKind) (f : FeatureDefinition) → HasEnoughPoints kind f → has_enough_points kind f ≡ true
test-from_HasEnoughPoints kind f h =
    list_all-from_AllPass _ f.parts
    (All-weaker (λ (part : List Point). least_points kind ≤ length part) (λ (part : List Point). nat_le (least_points kind) (length part) ≡ true)
    (λ part. test_from_le _ _) f.parts h)

-- if the test of all shapes is true, each has the points that the kind needs
pub shapes_from_test : (kind : LayerKind) (features : List FeatureDefinition) → list_all (has_enough_points kind) features ≡ true → All (HasEnoughPoints kind) features
shapes_from_test kind features h =
    All-weaker (λ f. has_enough_points kind f ≡ true) (HasEnoughPoints kind) (HasEnoughPoints-from_test kind) features
    (AllPass-from_list_all (has_enough_points kind) features h)
