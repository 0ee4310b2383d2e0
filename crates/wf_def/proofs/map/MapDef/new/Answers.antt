use Rattle.std.proofs.Common.{rules}
use Rattle.wf_def.proofs.map.MapDef.new.Goals as goal

pub invariant_of-result : goal.invariant_of-result
invariant_of-result c = record {
  name = c.know_text.ensures;
  title = c.know_text-2.ensures;
  abstract_text = c.know_text-3.ensures;
  address = c.know_text-4.ensures;
  extent = c.minx.ensures.within;
  layers_most = rw c.new.ensures.empty (search rules);
  names = rw c.new.ensures.empty (search rules);
  layers = rw c.new.ensures.empty (search rules);
  unlike_names = c.new.ensures.unique;
  features_most = rw c.new.ensures.empty (search rules);
  points_most = rw c.new.ensures.empty (search rules);
}
