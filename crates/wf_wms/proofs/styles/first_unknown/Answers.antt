use Rattle.std.proofs.Common.{◌∙◌, not, rules, tests}
use Rattle.std.proofs.lemmas.Iterator.Search.{position_from_yields_List}
use Rattle.std.proofs.lemmas.Iterator.Splits.{YieldsList-from_slice_split}
use Rattle.wf_wms.specs.MapRequest.{entries, is_style}
use Rattle.wf_wms.proofs.EntriesTheorem.{found_within}
use Rattle.wf_wms.proofs.styles.first_unknown.Goals as goal

pub returns-clause-index : goal.returns-clause-index
unfolding entries
returns-clause-index c = position_from_yields_List (λ name. not (is_style name)) _ _ _ c.position.ensures.ran (YieldsList-from_slice_split _ _ c.args.names.now (c.split.ensures.rest ∙ c.as_bytes.ensures.value) c.split.ensures.done c.split.ensures.closure (λ x b q k. search (rules, tests))) (λ x b q k. search (rules, tests))

pub returns-clause-within : goal.returns-clause-within
returns-clause-within c = found_within (λ name. not (is_style name)) (entries c.args.names.now) c.position.result (returns-clause-index c)
