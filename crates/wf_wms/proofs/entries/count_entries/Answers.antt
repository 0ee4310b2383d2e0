use Rattle.std.proofs.Common.{◌∙◌, rules, tests}
use Rattle.std.proofs.lemmas.Iterator.Consumers.{count_from_yields_List}
use Rattle.std.proofs.lemmas.Iterator.Splits.{YieldsList-from_slice_split}
use Rattle.wf_wms.specs.MapRequest.{entries}
use Rattle.wf_wms.proofs.entries.count_entries.Goals as goal

pub returns : goal.returns
unfolding entries
returns c = count_from_yields_List _ _ c.count.ensures.ran (YieldsList-from_slice_split _ _ c.args.text.now (c.split.ensures.rest ∙ c.as_bytes.ensures.value) c.split.ensures.done c.split.ensures.closure (λ x b q k. search (rules, tests)))
