use Rattle.std.proofs.Common.{rules, tests}
use Rattle.std.proofs.lemmas.Iterator.Search.{position_from_yields_List}
use Rattle.std.proofs.lemmas.Iterator.Splits.{YieldsList-from_slice_split}
use Rattle.std.specs.Prelude.{bytes_eq}
use Rattle.wf_def.proofs.attribute.index_of.Goals as goal

pub returns : goal.returns
returns c = position_from_yields_List (bytes_eq c.args.name.now) _ _ _ c.position.ensures.ran (YieldsList-from_slice_split _ _ c.args.names.now c.split.ensures.rest c.split.ensures.done c.split.ensures.closure (λ x b q k. search (rules, tests))) (λ x b q k. search (rules, tests))
