-- Messages that a node returned.
use Rattle.std.specs.Prelude.{ℕ, List, [], ◌∷◌, ◌++◌, Vec}
use Rattle.std.specs.declared.alloc.Global.{Global}
use Rattle.wf_codec.specs.declared.message.Message.{Message}
use Rattle.wf_model.specs.Chosen.{IsIn}

-- the messages of a log of lists
unfoldable pub logged : List (Vec Message Global × ℕ) → List Message
logged [] = []
logged (entry ∷ log) = entry.0.items ++ logged log

-- each of the first is one of the second
abbrev pub AreAmong : {A : Type 0} → List A → List A → Type 0
AreAmong {A} xs ys = (x : A) → IsIn x xs → IsIn x ys
