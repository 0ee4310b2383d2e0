use Rattle.std.proofs.Common.{rules}
use Rattle.wf_def.proofs.LayerLemmas.{shapes_from_test}
use Rattle.wf_def.proofs.layer.Layer.new.Goals as goal

pub invariant_of-result : goal.invariant_of-result
invariant_of-result c = record {
  title = c.know_text.ensures;
  class_item = c.know_text-2.ensures;
  label_item = c.know_text-3.ensures;
  items = c.as_bytes.ensures.within;
  items_most = search rules;
  classes_most = c.as_slice.ensures.most;
  classes = c.as_slice.ensures.within;
  features = c.as_slice-2.ensures.within;
  shapes = shapes_from_test _ _ (search rules);
}
