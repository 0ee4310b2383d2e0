-- A map's name is found by its definition.
use Rattle.std.proofs.Common.{◌∙◌, refl}
use Rattle.wf_script.proofs.MapNames.{named_there}
use Rattle.wf_script.proofs.maps.Maps.name_of.Goals as goal

pub returns : goal.returns
returns c = (rw c.deref.ensures.value at c.name_of.ensures) ∙ named_there c.args.self.now.named.items c.args.meant.now _ refl
