-- A step of a node, as the code and as the step table name it.
use Rattle.wf_model.specs.Table as table
use Rattle.wf_model.specs.declared.action.Action.{Action}
use Rattle.wf_model.specs.declared.action.Action.TheVariants as action

-- the action, with what its message stands for
abbrev pub view : {D M N : Type 0} → (M → N) → Action D M → table.Action D N
view message_of (action.Propose d) = table.Propose d
view message_of action.Retry = table.Retry
view message_of action.CatchUp = table.CatchUp
view message_of (action.Deliver message) = table.Deliver (message_of message)

-- the same, where a message is its number
abbrev pub numbered : {D M : Type 0} → Action D M → table.Action D M
numbered action = view (λ message. message) action
