use Rattle.std.proofs.Common.{rules, tests}
use Rattle.std.proofs.lemmas.Iterator.{YieldsList-from_slice}
use Rattle.std.proofs.lemmas.Iterator.Search.{position_from_yields_List}
use Rattle.wf_def.specs.Attribute.{matches, class_value, class_of}
use Rattle.wf_def.proofs.layer.Layer.class_of.Goals as goal

pub returns-clause-class : goal.returns-clause-class
unfolding class_of
returns-clause-class c = position_from_yields_List (λ class. matches class.expression (class_value c.args.self.now c.args.feature.now)) _ _ _ c.position.ensures.ran (YieldsList-from_slice c.args.self.now.classes cc) (λ x b q k. search (rules, tests))
