-- What a replica heard of its sources, reply by reply, and what it made of that.
use Rattle.std.specs.Prelude.{◌≡◌, ◌≢◌, ⊤, ℕ, Bool, true, List, [], ◌∷◌, ◌++◌, Some, Result, slice_get}
use Rattle.wf_def.specs.Definition.{Definition}
use Rattle.wf_reader.specs.ReaderAnswer.{ReaderAnswer}
use Rattle.wf_reader.specs.declared.question.Question.{Question}
use Rattle.wf_reader.specs.declared.rejection.QuestionRejection.{QuestionRejection}
use Rattle.wf_reader.specs.declared.rejection.QuestionRejection.TheVariants as causes
use Rattle.wf_reader.specs.declared.reply.Reply.{Reply}
use Rattle.wf_reader.specs.declared.reply.Reply.TheVariants as replies
use Rattle.wf_replica.specs.Fit.{IsOtherHistory, AnswerLeaves}
use Rattle.wf_replica.specs.Follower.{answers_of, list_of}
use Rattle.wf_replica.specs.declared.follower.Follower.{Follower}
use Rattle.wf_replica.specs.declared.misfit.AnswerFault.{AnswerFault}
use Rattle.wf_replica_command.specs.Continuation.{IsLaterReplica}
use Rattle.wf_replica_command.specs.declared.asked.Asked.{Asked}
use Rattle.wf_replica_command.specs.declared.upstream.Upstream.{Upstream}
use Rattle.wf_sockets.specs.declared.connection.Connection.{Ghosts as Connection}
use Rattle.wf_tape.specs.declared.tape.Tape.{Ghosts as Tape}

-- a replica's list, the answers that it was given, and for each of its sources whether it refuses
-- the replica
pub record Course : Type 0 where
  pub list : List Definition
  pub answers : List (ReaderAnswer × Question)
  pub refusals : List Bool

abbrev pub course_of : {T : Type 0} {tapes : Tape T} → Follower T tapes → List Bool → Course
course_of follower refusals = record { list = list_of follower; answers = answers_of follower; refusals = refusals }

-- a source that rejects a question so is of another farm, or of another history
abbrev pub IsRefusing : QuestionRejection → Type 0
IsRefusing causes.OtherFarm = ⊤
IsRefusing causes.OtherVersion = ⊥
IsRefusing (causes.OtherHistory s) = ⊤
IsRefusing causes.TooFar = ⊥

-- by this reply a source refuses a replica with this list
abbrev pub IsRefusal : List Definition → Reply → Type 0
IsRefusal list (replies.Answer a) = IsOtherHistory list a
IsRefusal list (replies.Rejected why) = IsRefusing why

-- What a reply to a question leaves: an answer is given to the replica, which takes it whole if it
-- fits; a rejection changes nothing of it.
pub record IsAnswerGiven (q : Question) (a : ReaderAnswer) (old new : Course) : Type 0 where
  pub outcome : Result (Unit {0}) AnswerFault
  pub leaves : AnswerLeaves old.list q a outcome new.list
  pub answers : new.answers ≡ old.answers ++ (a, q) ∷ []

pub record IsKept (old new : Course) : Type 0 where
  pub list : new.list ≡ old.list
  pub answers : new.answers ≡ old.answers

abbrev pub IsReplyTaken : Question → Reply → Course → Course → Type 0
IsReplyTaken q (replies.Answer a) old new = IsAnswerGiven q a old new
IsReplyTaken q (replies.Rejected why) old new = IsKept old new

-- no source refuses that didn't
abbrev pub IsFewer : List Bool → List Bool → Type 0
IsFewer old new = (i : ℕ) → slice_get new i ≡ Some true → slice_get old i ≡ Some true

-- this source refuses only for that, and of the others none that didn't
pub record IsNoted (source : ℕ) (refuses : Type 0) (old new : List Bool) : Type 0 where
  pub own : slice_get new source ≡ Some true → refuses
  pub others : (i : ℕ) → i ≢ source → slice_get new i ≡ Some true → slice_get old i ≡ Some true

-- a reply came: a source refuses the replica only by its own reply
pub record IsReplyHeard (reply : Reply) (asked : Asked) (old new : Course) : Type 0 where
  pub taken : IsReplyTaken asked.question reply old new
  pub noted : IsNoted asked.source (IsRefusal old.list reply) old.refusals new.refusals

-- no reply came, and no source refuses that didn't
pub record IsQuiet (old new : Course) : Type 0 where
  pub kept : IsKept old new
  pub refusals : IsFewer old.refusals new.refusals

-- these replies came, one after the other
unfoldable pub AreHeard : Course → List (Reply × Asked) → Course → Type 0
AreHeard old [] new = IsQuiet old new
AreHeard old (x ∷ heard) new = (next : Course) × IsReplyHeard x.0 x.1 old next × AreHeard next heard new

-- The replica goes on by what it hears of its sources.
pub record Hears {T N C L : Type 0} {tapes : Tape T} {connections : Connection C} (old_upstream : Upstream N C L connections) (old : Follower T tapes) (new_upstream : Upstream N C L connections) (new : Follower T tapes) : Type 0 where
  pub goes_on : IsLaterReplica old new
  pub heard : List (Reply × Asked)
  pub logged : new_upstream.heard.replies.items ≡ old_upstream.heard.replies.items ++ heard
  pub are : AreHeard (course_of old old_upstream.refusals) heard (course_of new new_upstream.refusals)
