-- What crosses a connection: the bytes that are written to one end, and the messages that come out
-- at the other.
use Rattle.std.specs.Prelude.{◌≡◌, ◌-◌, ◌++◌, ℕ, List, [], ◌∷◌, length, min, take, Option, Some}
use Rattle.std.specs.Io.KnownBytes.{Appends, Consumes}
use Rattle.wf_codec.specs.Encoding.{spelling}
use Rattle.wf_def.specs.Definition.{Definition}
use Rattle.wf_model.specs.Message.{Message}
use Rattle.wf_mail.specs.Stream.{Reads}

-- a prefix of the bytes was written
abbrev pub AppendsPart : Option (List ℕ) → Option (List ℕ) → List ℕ → Type 0
AppendsPart old new bytes = (count : ℕ) × Appends old new (take count bytes)

-- Bytes of this length were taken from the reader's, and they are the encodings of these messages,
-- followed by a rest that begins with none and has no error.
pub record ComeOut (size : ℕ) (left left_after : Option (List ℕ)) (messages : List (Message Definition)) (rest : List ℕ) : Type 0 where
  pub bytes : List ℕ
  pub as_long : length bytes ≡ size
  pub taken : Consumes left left_after bytes
  pub reads : Reads bytes messages rest

-- As many bytes as the message's encoding has came out, and they are the encoding of the message
-- that arrived, and nothing else.
abbrev pub ComesOut : Message Definition → Option (List ℕ) → Option (List ℕ) → Message Definition → Type 0
ComesOut sent left left_after arrived = ComeOut (length (spelling sent)) left left_after (arrived ∷ []) []

-- If the reader has what is written, the message that arrives is the one that was sent.
abbrev pub IsSentIfLooped : Message Definition → Option (List ℕ) → Message Definition → Type 0
IsSentIfLooped sent left arrived = (more : List ℕ) → left ≡ Some (spelling sent ++ more) → arrived ≡ sent

-- the first bytes of the message, at most this many and at most all but the last
unfoldable pub front_of : Message Definition → ℕ → List ℕ
front_of message count = take (min count (length (spelling message) - 1)) (spelling message)

-- As many bytes as these have come out, and no message.
abbrev pub NoneComesOut : List ℕ → Option (List ℕ) → Option (List ℕ) → Type 0
NoneComesOut sent left left_after = (rest : List ℕ) × ComeOut (length sent) left left_after [] rest
