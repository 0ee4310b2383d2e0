-- The count made while a feature is read equals that of its value.
use Rattle.std.proofs.Common.{◌≡◌, Bool, true, false, length, ap}
use Rattle.std.specs.Prelude.{nat_lt, Some, None, if◌then◌else◌, sum_by}
use Rattle.wf_def.specs.Definition.{FeatureDefinition}
use Rattle.wf_def.specs.Layer as def
use Rattle.wf_def.specs.Limits.{points_of_feature}
use Rattle.wf_feature.specs.declared.slots.FeatureSlots.{FeatureSlots}
use Rattle.wf_feature.specs.Feature.{feature_of}

given : {A : Type 0} (so : Bool) (x y : A) → (if so then Some x else None) ≡ Some y → x ≡ y
given true x y e = cc
given false x y e = absurd (let impossible : ⊥ = cc in impossible)

-- a feature's points are those of its parts
pub feature_counted : (settings : FeatureSlots) (f : FeatureDefinition) → feature_of settings ≡ Some f → sum_by length settings.parts ≡ points_of_feature f
unfolding feature_of def.feature_of
feature_counted settings f e = ap points_of_feature (given (nat_lt 0 (length settings.parts)) _ f e)
