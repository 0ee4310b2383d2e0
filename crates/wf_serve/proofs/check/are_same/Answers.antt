-- The test decides whether they are equal.
use Rattle.std.proofs.Common.{◌∙◌, sym}
use Rattle.std.proofs.lemmas.Bool.Decides.{not_from_Decides}
use Rattle.wf_def.specs.Equality.{definition_eq}
use Rattle.wf_def.specs.EqualityTheorems.{definition_eq-Decides}
use Rattle.wf_serve.proofs.check.are_same.Goals as goal

pub returns-clause-same : goal.returns-clause-same
returns-clause-same c = λ equal. (definition_eq-Decides c.args.one.now c.args.other.now).0 (sym c.eq.ensures ∙ equal)

pub returns-clause-different : goal.returns-clause-different
returns-clause-different c = λ other. not_from_Decides (definition_eq c.args.one.now c.args.other.now) (definition_eq-Decides c.args.one.now c.args.other.now) (sym c.eq.ensures ∙ other)
