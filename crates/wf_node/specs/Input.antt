-- An input as in wf_model.
use Rattle.wf_codec.specs.Message as message
use Rattle.wf_codec.specs.declared.message.Message.{Message}
use Rattle.wf_def.specs.Definition.{Definition}
use Rattle.wf_model.specs.Action as action
use Rattle.wf_model.specs.Table as model
use Rattle.wf_model.specs.declared.action.Action.{Action}

abbrev pub view : Action Definition Message → model.Input Definition
view input = action.view message.view input
