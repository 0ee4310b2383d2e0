-- The reply to a reader's question, and its bytes. Numbers are big-endian.
use Rattle.std.specs.Prelude.{◌≡◌, ℕ, ◌+◌, ◌*◌, ◌≤◌, List, [], ◌∷◌, ◌++◌, length}
use Rattle.std.specs.Int.{w32, to_be_bytes}
use Rattle.wf_ballot.specs.Sequence.{IsSequence, seq_bytes}
use Rattle.wf_codec.specs.Message.{HasText}
use Rattle.wf_def.specs.Definition.{Definition}
use Rattle.wf_frame.specs.Report.{text_bytes}
use Rattle.wf_model.specs.Table.{most_reports}
use Rattle.wf_reader.specs.ReaderAnswer.{ReaderAnswer, most_distance}
use Rattle.wf_reader.specs.declared.rejection.QuestionRejection.{QuestionRejection}
use Rattle.wf_reader.specs.declared.rejection.QuestionRejection.TheVariants as causes
use Rattle.wf_reader.specs.declared.reply.Reply.{Reply}
use Rattle.wf_reader.specs.declared.reply.Reply.TheVariants as replies
use Rattle.wf_spelling.specs.Canon.{canon, most_canon_bytes}

-- definitions that have canonical texts
unfoldable pub AreTexts : List Definition → Type 0
AreTexts [] = Unit {0}
AreTexts (d ∷ definitions) = HasText d × AreTexts definitions

-- an answer: its distance, its published sequence, a digest of 32 bytes, and at most eight
-- definitions
pub record IsAnswer (a : ReaderAnswer) : Type 0 where
  pub distance : a.distance ≤ most_distance
  pub published : IsSequence a.published
  pub digest : length a.digest ≡ 32
  pub few : length a.definitions ≤ most_reports
  pub texts : AreTexts a.definitions

abbrev pub IsRejection : QuestionRejection → Type 0
IsRejection (causes.OtherHistory s) = IsSequence s
IsRejection _ = Unit {0}

abbrev pub IsReply : Reply → Type 0
IsReply (replies.Answer a) = IsAnswer a
IsReply (replies.Rejected why) = IsRejection why

-- ---- its bytes

-- the texts of definitions, each behind its length
unfoldable pub texts_bytes : List Definition → List ℕ
texts_bytes [] = []
texts_bytes (d ∷ definitions) = text_bytes (canon d) ++ texts_bytes definitions

-- an answer: a 1, its distance (1 byte), its published sequence (2), the digest (32) and the texts
unfoldable pub answer_fields : ReaderAnswer → List ℕ
answer_fields a = seq_bytes a.published ++ (a.digest ++ texts_bytes a.definitions)

abbrev pub answer_bytes : ReaderAnswer → List ℕ
answer_bytes a = (1 ∷ a.distance ∷ []) ++ answer_fields a

-- a rejection: a 2, its cause, and a sequence
abbrev pub cause_byte : QuestionRejection → ℕ
cause_byte causes.OtherFarm = 1
cause_byte causes.OtherVersion = 2
cause_byte (causes.OtherHistory s) = 3
cause_byte causes.TooFar = 4

-- the sequence up to which histories differ; 0 for another cause
abbrev pub cause_sequence : QuestionRejection → ℕ
cause_sequence (causes.OtherHistory s) = s
cause_sequence _ = 0

abbrev pub rejection_bytes : QuestionRejection → List ℕ
rejection_bytes why = (2 ∷ cause_byte why ∷ []) ++ seq_bytes (cause_sequence why)

unfoldable pub body_bytes : Reply → List ℕ
body_bytes (replies.Answer a) = answer_bytes a
body_bytes (replies.Rejected why) = rejection_bytes why

-- the length of what follows (4 bytes), and that
unfoldable pub reply_bytes : Reply → List ℕ
reply_bytes reply = to_be_bytes w32 (length (body_bytes reply)) ++ body_bytes reply

-- the most bytes after the length, and in all
abbrev pub most_body_bytes : ℕ
most_body_bytes = 36 + most_reports * (4 + most_canon_bytes)

abbrev pub most_reply_bytes : ℕ
most_reply_bytes = 4 + most_body_bytes
