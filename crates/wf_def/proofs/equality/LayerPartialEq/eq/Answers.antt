use Rattle.std.proofs.Common.{rules}
use Rattle.std.proofs.lemmas.Bool.Decides.{Decides-at}
use Rattle.wf_def.specs.Equality.{layer_eq}
use Rattle.wf_def.specs.EqualityTheorems.{layer_eq-Decides}
use Rattle.wf_def.proofs.equality.LayerPartialEq.eq.Goals as goal

pub returns-then-eq-6-clause-equal : goal.returns-then-eq-6-clause-equal
unfolding layer_eq
returns-then-eq-6-clause-equal c = Decides-at _ _ (search rules) (layer_eq-Decides _ _)

pub returns-else-eq-6-clause-equal : goal.returns-else-eq-6-clause-equal
unfolding layer_eq
returns-else-eq-6-clause-equal c = Decides-at _ _ (search rules) (layer_eq-Decides _ _)
