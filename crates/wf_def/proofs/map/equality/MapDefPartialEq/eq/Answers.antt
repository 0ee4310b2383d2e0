use Rattle.std.proofs.Common.{rules}
use Rattle.std.proofs.lemmas.Bool.Decides.{Decides-at}
use Rattle.wf_def.specs.Equality.{definition_eq}
use Rattle.wf_def.specs.EqualityTheorems.{definition_eq-Decides}
use Rattle.wf_def.proofs.map.equality.MapDefPartialEq.eq.Goals as goal

pub returns-then-eq-6-clause-equal : goal.returns-then-eq-6-clause-equal
unfolding definition_eq
returns-then-eq-6-clause-equal c = Decides-at _ _ (search rules) (definition_eq-Decides _ _)
