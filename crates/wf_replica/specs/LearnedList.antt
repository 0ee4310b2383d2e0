-- What a replica has learned: its list after each message that it heard, one after the other.
use Rattle.std.specs.Prelude.{ℕ, suc, List, [], ◌∷◌, map}
use Rattle.wf_execution.specs.Replica.{after_learning}
use Rattle.wf_codec.specs.Message.{view}
use Rattle.wf_codec.specs.declared.message.Message as code
use Rattle.wf_def.specs.Definition.{Definition}
use Rattle.wf_model.specs.Message.{Message, Chosen}

-- the list after these messages
unfoldable pub learned : List Definition → List (Message Definition) → List Definition
learned list [] = list
learned list (m ∷ received) = learned (after_learning list m) received

-- the messages of a log
abbrev pub messages_of : List (code.Message × ℕ) → List (Message Definition)
messages_of log = map (λ entry. view entry.0) log

-- definitions that are chosen under the sequences from s on, as messages
unfoldable pub numbered : ℕ → List Definition → List (Message Definition)
numbered s [] = []
numbered s (d ∷ definitions) = Chosen s d ∷ numbered (suc s) definitions
