-- Messages, and the bytes that a connection carries of them.
use Rattle.std.specs.Prelude.{◌≡◌, ℕ, ⊤, List, [], ◌∷◌, ◌++◌}
use Rattle.wf_codec.specs.Message.{IsMessage}
use Rattle.wf_codec.specs.Encoding.{spelling}
use Rattle.wf_def.specs.Definition.{Definition}
use Rattle.wf_model.specs.Message.{Message}

-- the encodings of the messages, one after the other
unfoldable pub spelled : List (Message Definition) → List ℕ
spelled [] = []
spelled (m ∷ messages) = spelling m ++ spelled messages

-- each of them has an encoding
abbrev pub AreMessages : List (Message Definition) → Type 0
AreMessages [] = ⊤
AreMessages (m ∷ messages) = IsMessage m × AreMessages messages

-- the one list is the first part of the other, or all of it
abbrev pub IsFirstPart : {A : Type 0} → List A → List A → Type 0
IsFirstPart {A} xs ys = (rest : List A) × (xs ++ rest ≡ ys)

-- These bytes came of a connection into which the messages were put: a beginning of their
-- encodings. The rest comes later, or never.
pub record IsCarried (put : List (Message Definition)) (bytes : List ℕ) : Type 0 where
  pub messages : AreMessages put
  pub begins : IsFirstPart bytes (spelled put)
