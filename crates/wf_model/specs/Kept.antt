-- What a crash within a step leaves, as the code and as the model name it.
use Rattle.wf_model.specs.World as world
use Rattle.wf_model.specs.declared.action.Kept.{Kept}
use Rattle.wf_model.specs.declared.action.Kept.TheVariants as kept

abbrev pub view : Kept → world.Kept
view kept.Before = world.Before
view kept.After = world.After
