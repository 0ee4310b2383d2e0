-- A map is found by its name.
use Rattle.std.proofs.Common.{◌∙◌}
use Rattle.wf_script.proofs.MapNames.{found_by_name}
use Rattle.wf_script.proofs.maps.Maps.number_of.Goals as goal

pub returns : goal.returns
returns c = (rw c.deref.ensures.value at c.number_of.ensures) ∙ found_by_name c.args.self.now.named.items c.args.name.now
