-- Events as the model's events.
use Rattle.wf_farm.specs.Common.{Definition}
use Rattle.wf_model.specs.Action.{numbered}
use Rattle.wf_model.specs.Kept.{view as view_kept}
use Rattle.wf_model.specs.World as model
use Rattle.wf_farm.specs.declared.event.Event.{Event}
use Rattle.wf_farm.specs.declared.event.Event.TheVariants as event

abbrev pub view : Event → model.Event Definition
view (event.Act i action) = model.Act i (numbered action)
view (event.Stop i) = model.Stop i
view (event.Restart i) = model.Restart i
view (event.Torn i action kept) = model.Torn i (numbered action) (view_kept kept)
