use Rattle.std.proofs.Common.{rules, arith}
use Rattle.std.proofs.lemmas.Grind.{common_steps}
use Rattle.std.proofs.lemmas.Bool.Decides.{Decides-at}
use Rattle.wf_def.specs.Equality.{class_eq}
use Rattle.wf_def.specs.EqualityTheorems.{class_eq-Decides}
use Rattle.wf_def.proofs.equality.ClassPartialEq.eq.Goals as goal

pub returns-then-eq-3-clause-equal : goal.returns-then-eq-3-clause-equal
unfolding class_eq
returns-then-eq-3-clause-equal c = Decides-at _ _ (grind (arith, common_steps) steps 2000000) (class_eq-Decides _ _)

pub returns-else-eq-3-clause-equal : goal.returns-else-eq-3-clause-equal
unfolding class_eq
returns-else-eq-3-clause-equal c = Decides-at _ _ (search rules) (class_eq-Decides _ _)
