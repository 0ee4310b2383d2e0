-- The reply that a question has, from a farm's history.
use Rattle.std.specs.Prelude.{◌≡◌, ◌≢◌, ℕ, ◌<◌, ◌≤◌, ⊤, List, drop, length, take}
use Rattle.wf_def.specs.Definition.{Definition}
use Rattle.wf_digest.specs.Digest.{digest_at}
use Rattle.wf_model.specs.Table.{most_reports}
use Rattle.wf_reader.specs.ReaderAnswer.{ReaderAnswer, most_distance}
use Rattle.wf_reader.specs.declared.answerer.Answerer.{Answerer}
use Rattle.wf_reader.specs.declared.question.Question.{Question}
use Rattle.wf_reader.specs.declared.rejection.QuestionRejection.{QuestionRejection}
use Rattle.wf_reader.specs.declared.rejection.QuestionRejection.TheVariants as causes
use Rattle.wf_reader.specs.declared.reply.Reply.{Reply}
use Rattle.wf_reader.specs.declared.reply.Reply.TheVariants as replies

-- the definitions that are published at the next sequences, at most eight
abbrev pub next_reported : List Definition → ℕ → List Definition
next_reported history published = take most_reports (drop published history)

-- an answer has the definitions that the history has next after those of the question
abbrev pub TellsNext : List Definition → Question → Reply → Type 0
TellsNext history q (replies.Answer a) = a.definitions ≡ next_reported history q.published
TellsNext history q (replies.Rejected why) = ⊤

-- the digests differ at the reader's last published sequence, which the answerer has published too
pub record Differ (history : List Definition) (q : Question) : Type 0 where
  pub both : q.published ≤ length history
  pub differ : q.digest ≢ digest_at history q.published

-- the reader is of the same farm, and the answerer isn't too far from a voter
pub record IsAnswerable (own : Answerer) (q : Question) : Type 0 where
  pub farm : q.farm ≡ own.farm
  pub near : own.distance ≤ most_distance

pub record IsAnswerTo (own : Answerer) (history : List Definition) (q : Question) (a : ReaderAnswer) : Type 0 where
  pub received : IsAnswerable own q
  pub agree : ¬ Differ history q
  pub distance : a.distance ≡ own.distance
  pub published : a.published ≡ length history
  pub digest : a.digest ≡ digest_at history (length history)
  pub definitions : a.definitions ≡ next_reported history q.published

-- why a question isn't answered; one of another version isn't read as a question
abbrev pub IsQuestionRejection : Answerer → List Definition → Question → QuestionRejection → Type 0
IsQuestionRejection own history q causes.OtherFarm = q.farm ≢ own.farm
IsQuestionRejection own history q causes.OtherVersion = ⊥
IsQuestionRejection own history q causes.TooFar = (q.farm ≡ own.farm) × (most_distance < own.distance)
IsQuestionRejection own history q (causes.OtherHistory s) = IsAnswerable own q × Differ history q × (s ≡ q.published)

abbrev pub IsReplyTo : Answerer → List Definition → Question → Reply → Type 0
IsReplyTo own history q (replies.Answer a) = IsAnswerTo own history q a
IsReplyTo own history q (replies.Rejected why) = IsQuestionRejection own history q why
