use Rattle.std.proofs.Common.{rules}
use Rattle.std.proofs.lemmas.Bool.Decides.{Decides-at}
use Rattle.wf_def.specs.Equality.{feature_eq}
use Rattle.wf_def.specs.EqualityTheorems.{feature_eq-Decides}
use Rattle.wf_def.proofs.equality.FeaturePartialEq.eq.Goals as goal

pub returns-then-eq-2-clause-equal : goal.returns-then-eq-2-clause-equal
unfolding feature_eq
returns-then-eq-2-clause-equal c = Decides-at _ _ (search rules) (feature_eq-Decides _ _)

pub returns-else-eq-2-clause-equal : goal.returns-else-eq-2-clause-equal
unfolding feature_eq
returns-else-eq-2-clause-equal c = Decides-at _ _ (search rules) (feature_eq-Decides _ _)
