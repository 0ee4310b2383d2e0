-- What was asked and replied on a connection to a source.
use Rattle.std.specs.Prelude.{◌≡◌, ℕ, ⊤, List, [], ◌∷◌, ◌++◌, Option, Some, None, map, take}
use Rattle.wf_past.specs.declared.past.Past.{Past}
use Rattle.wf_reader.specs.Question.{IsQuestion, question_bytes}
use Rattle.wf_reader.specs.Reply.{IsReply, reply_bytes}
use Rattle.wf_reader.specs.declared.question.Question.{Question}
use Rattle.wf_reader.specs.declared.reply.Reply.{Reply}
use Rattle.wf_replica_command.specs.declared.asked.Asked.{Asked}
use Rattle.wf_replica_command.specs.declared.open_question.OpenQuestion.{OpenQuestion}
use Rattle.wf_sockets.specs.declared.connection.Connection.{Ghosts as Connection}

-- the bytes of these questions, one after the other
unfoldable pub asked_bytes : List (Question × Reply) → List ℕ
asked_bytes [] = []
asked_bytes (x ∷ replied) = question_bytes x.0 ++ asked_bytes replied

-- the bytes of the replies to them, one after the other
unfoldable pub replied_bytes : List (Question × Reply) → List ℕ
replied_bytes [] = []
replied_bytes (x ∷ replied) = reply_bytes x.1 ++ replied_bytes replied

-- it is a reply, and no other one has its bytes
pub record IsOneReply (reply : Reply) : Type 0 where
  pub is_reply : IsReply reply
  pub only : (other : Reply) → IsReply other → reply_bytes other ≡ reply_bytes reply → other ≡ reply

-- they are questions, with such replies
unfoldable pub AreReadReplies : List (Question × Reply) → Type 0
AreReadReplies [] = ⊤
AreReadReplies (x ∷ replied) = IsQuestion x.0 × IsOneReply x.1 × AreReadReplies replied

-- ---- of a connection as it is

-- what was written of a question, and of the one that is open
abbrev pub part_written : OpenQuestion → List ℕ
part_written asked = take asked.written asked.bytes.items

abbrev pub part_asked : Option OpenQuestion → List ℕ
part_asked None = []
part_asked (Some asked) = part_written asked

-- the bytes of a reply, if it has come
abbrev pub bytes_taken : Option Reply → List ℕ
bytes_taken None = []
bytes_taken (Some reply) = reply_bytes reply

-- ---- of a connection on which a reply has come

-- all bytes that had come on the connection, all that had been sent on it, and the questions that
-- were replied to on it, in their order
pub record Conversation : Type 0 where
  pub came : List ℕ
  pub sent : List ℕ
  pub replied : List (Question × Reply)

abbrev pub conversation_on : {C : Type 0} (connections : Connection C) → C → Past Question Reply → Conversation
conversation_on connections connection past = record { came = connections.came connection; sent = connections.sent connection; replied = past.items }

abbrev pub conversations_on : {C : Type 0} (connections : Connection C) → List (C × Past Question Reply) → List Conversation
conversations_on connections log = map (λ entry. conversation_on connections entry.0 entry.1) log

-- What had come on the connection is replies, what had been sent is the questions to them, and
-- nothing else; and the last of them is this reply, to this question.
pub record IsHeardOn (conversation : Conversation) (reply : Reply) (q : Question) : Type 0 where
  pub came : conversation.came ≡ replied_bytes conversation.replied
  pub sent : conversation.sent ≡ asked_bytes conversation.replied
  pub read : AreReadReplies conversation.replied
  pub before : List (Question × Reply)
  pub last : conversation.replied ≡ before ++ (q, reply) ∷ []

-- so it is of each reply, in its order
unfoldable pub AreHeardOn : List Conversation → List (Reply × Asked) → Type 0
AreHeardOn [] [] = ⊤
AreHeardOn [] (x ∷ heard) = ⊥
AreHeardOn (conversation ∷ conversations) [] = ⊥
AreHeardOn (conversation ∷ conversations) (x ∷ heard) = IsHeardOn conversation x.0 x.1.question × AreHeardOn conversations heard
