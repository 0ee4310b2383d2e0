-- What is replied to a reader.
use Rattle.std.specs.Prelude.{◌≡◌, ◌⊎◌, ℕ, ⊤, List, ◌++◌}
use Rattle.wf_def.specs.Definition.{Definition}
use Rattle.wf_digest.specs.Digest.{AreDigestsOf}
use Rattle.wf_reader.specs.Answerer.{IsReplyTo, TellsNext}
use Rattle.wf_reader.specs.Question.{IsOfOtherVersion, IsQuestion, question_bytes}
use Rattle.wf_reader.specs.Reply.{IsReply, reply_bytes}
use Rattle.wf_reader.specs.declared.answerer.Answerer.{Answerer}
use Rattle.wf_reader.specs.declared.question.Question.{Question}
use Rattle.wf_reader.specs.declared.rejection.QuestionRejection.TheVariants.{OtherVersion}
use Rattle.wf_reader.specs.declared.reply.Reply.{Reply}
use Rattle.wf_reader.specs.declared.reply.Reply.TheVariants.{Rejected}
use Rattle.wf_readers_port.specs.declared.replies.QuestionOutcome.{QuestionOutcome}
use Rattle.wf_readers_port.specs.declared.replies.QuestionOutcome.TheVariants as answered

-- where a reply was written
abbrev pub IfReplied : QuestionOutcome → Type 0 → Type 0
IfReplied answered.Short P = ⊤
IfReplied (answered.Replied why) P = P
IfReplied answered.Malformed P = ⊤
IfReplied answered.Memory P = ⊤

-- The bytes begin with this question, and with no other.
pub record BeginsWithQuestion (bytes : List ℕ) (question : Question) : Type 0 where
  pub rest : List ℕ
  pub begins : bytes ≡ question_bytes question ++ rest
  pub only : (other : Question) (after : List ℕ) → IsQuestion other → bytes ≡ question_bytes other ++ after → other ≡ question

-- A reply was appended that tells what the history has next; if the digests are the history's, it
-- is the one that the question has by it.
pub record Replies (own : Answerer) (history : List Definition) (digests : List (List ℕ)) (question : Question) (old new : List ℕ) : Type 0 where
  pub reply : Reply
  pub is_encoded : IsReply reply
  pub told : TellsNext history question reply
  pub is_reply : AreDigestsOf history digests → IsReplyTo own history question reply
  pub written : new ≡ old ++ reply_bytes reply

-- Bytes begin with a question, and its reply was appended; or they begin as one of another version,
-- and that was said.
abbrev pub RepliesTo : Answerer → List Definition → List (List ℕ) → List ℕ → List ℕ → List ℕ → Type 0
RepliesTo own history digests bytes old new =
    ((question : Question) × BeginsWithQuestion bytes question × Replies own history digests question old new)
    ⊎ (IsOfOtherVersion bytes × (new ≡ old ++ reply_bytes (Rejected OtherVersion)))
