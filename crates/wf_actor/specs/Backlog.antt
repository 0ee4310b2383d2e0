-- The bound of a backlog.
use Rattle.std.specs.Prelude.{ℕ, Bool, true, false, List, ◌++◌, take}
use Rattle.wf_codec.specs.declared.message.Message.{Message}

-- the most messages that wait for their own node
abbrev pub most_messages : ℕ
most_messages = 256

-- what waits after these messages: they are appended, as far as there is room, if they are for the
-- node itself
abbrev pub queued : Bool → List Message → List Message → List Message
queued true messages outputs = take most_messages (messages ++ outputs)
queued false messages outputs = messages
