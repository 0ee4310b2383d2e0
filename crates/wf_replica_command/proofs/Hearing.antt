-- A replica goes on from reply to reply.
use Rattle.std.proofs.Common.{◌≡◌, ◌∙◌, ℕ, List, [], ◌∷◌, ◌++◌, refl, sym, ap, subst, append_assoc, append-nil}
use Rattle.std.specs.Prelude.{Bool, Option, None, Result, IsSome}
use Rattle.wf_def.specs.Definition.{Definition}
use Rattle.wf_reader.specs.ReaderAnswer.{ReaderAnswer}
use Rattle.wf_reader.specs.declared.question.Question.{Question}
use Rattle.wf_reader.specs.declared.rejection.QuestionRejection.{QuestionRejection}
use Rattle.wf_reader.specs.declared.reply.Reply.{Reply}
use Rattle.wf_reader.specs.declared.reply.Reply.TheVariants as replies
use Rattle.wf_replica.specs.Fit.{IsOtherHistory, AnswerLeaves}
use Rattle.wf_replica.specs.Follower.{HasLearnedNothing, answers_of, list_of, read_by, received_by}
use Rattle.wf_replica.specs.Heard.{CameByAnswers}
use Rattle.wf_replica.specs.LearnedList.{numbered}
use Rattle.wf_replica.specs.declared.follower.Follower.{Follower}
use Rattle.wf_replica.specs.declared.misfit.AnswerFault.{AnswerFault}
use Rattle.wf_replica_command.specs.Continuation.{IsLaterReplica}
use Rattle.wf_replica_command.specs.Heard.{AreHeard, Course, Hears, IsFewer, IsAnswerGiven, IsReplyHeard, IsKept, IsNoted, IsRefusal, IsRefusing, IsQuiet, IsReplyTaken, course_of}
use Rattle.wf_replica_command.specs.Conversation.{AreHeardOn, conversations_on}
use Rattle.wf_replica_command.specs.ReplicaLoop.{HasBeenTold, HasHeardNothing, state_of}
use Rattle.wf_replica_command.specs.declared.asked.Asked.{Asked}
use Rattle.wf_replica_command.specs.declared.upstream.Upstream.{Upstream}
use Rattle.wf_replica_command.specs.declared.replica_loop.ReplicaLoop.{ReplicaLoop}
use Rattle.wf_replica_command.specs.declared.renderer.Renderer.{Renderer}
use Rattle.wf_replica_command.proofs.Continuation.{goes_on_twice, stays_same}
use Rattle.wf_replica_command.proofs.Noting.{fewer_itself, fewer_same, noted_fewer, noted_for}
use Rattle.wf_sockets.specs.declared.connection.Connection.{Ghosts as Connection}
use Rattle.wf_tape.specs.declared.tape.Tape.{Ghosts as Tape}

settled_itself : (c : Course) → IsQuiet c c
settled_itself c = record { kept = record { list = refl; answers = refl }; refusals = fewer_itself c.refusals }

kept_twice : (a b c : Course) → IsKept a b → IsKept b c → IsKept a c
kept_twice a b c first second = record { list = second.list ∙ first.list; answers = second.answers ∙ first.answers }

settled_twice : (a b c : Course) → IsQuiet a b → IsQuiet b c → IsQuiet a c
settled_twice a b c first second =
    record { kept = kept_twice a b c first.kept second.kept; refusals = λ i refuses. first.refusals i (second.refusals i refuses) }

-- ---- a reply to a replica that was kept

taken_later : (a b c : Course) (q : Question) (reply : Reply) → IsKept a b → IsReplyTaken q reply b c → IsReplyTaken q reply a c
taken_later a b c q (replies.Answer answer) kept taken = record {
  outcome = taken.outcome;
  leaves = subst (λ (l : List Definition). AnswerLeaves l q answer taken.outcome c.list) kept.list taken.leaves;
  answers = taken.answers ∙ ap (λ (l : List (ReaderAnswer × Question)). l ++ (answer, q) ∷ []) kept.answers;
}
taken_later a b c q (replies.Rejected why) kept taken = kept_twice a b c kept taken

heard_later : (a b c : Course) (reply : Reply) (asked : Asked) → IsQuiet a b → IsReplyHeard reply asked b c → IsReplyHeard reply asked a c
heard_later a b c reply asked settled heard = record {
  taken = taken_later a b c asked.question reply settled.kept heard.taken;
  noted = record {
    own = λ refuses. subst (λ (l : List Definition). IsRefusal l reply) settled.kept.list (heard.noted.own refuses);
    others = λ i other refuses. settled.refusals i (heard.noted.others i other refuses);
  };
}

are_heard_later : (a b c : Course) (heard : List (Reply × Asked)) → IsQuiet a b → AreHeard b heard c → AreHeard a heard c
unfolding AreHeard
are_heard_later a b c [] settled are = settled_twice a b c settled are
are_heard_later a b c (x ∷ heard) settled are = (are.0, heard_later a b are.0 x.0 x.1 settled are.1, are.2)

are_heard_twice : (a b c : Course) (first second : List (Reply × Asked)) → AreHeard a first b → AreHeard b second c → AreHeard a (first ++ second) c
unfolding AreHeard
are_heard_twice a b c [] second one two = are_heard_later a b c second one two
are_heard_twice a b c (x ∷ first) second one two = (one.0, one.1, are_heard_twice one.0 b c first second one.2 two)

none_heard : (a b : Course) → IsQuiet a b → AreHeard a [] b
unfolding AreHeard
none_heard a b settled = settled

one_heard : (a b : Course) (reply : Reply) (asked : Asked) → IsReplyHeard reply asked a b → AreHeard a ((reply, asked) ∷ []) b
unfolding AreHeard
one_heard a b reply asked heard = (b, heard, settled_itself b)

-- ---- a reply

module _ {T : Type 0} {tapes : Tape T} where
  pub given_by : (q : Question) (a : ReaderAnswer) (outcome : Result (Unit {0}) AnswerFault) (old new : Follower T tapes) (before after : List Bool) → AnswerLeaves (list_of old) q a outcome (list_of new) →
      answers_of new ≡ answers_of old ++ (a, q) ∷ [] → IsAnswerGiven q a (course_of old before) (course_of new after)
  given_by q a outcome old new before after leaves answers = record { outcome = outcome; leaves = leaves; answers = answers }

  pub heard_answer : (source : ℕ) (q : Question) (a : ReaderAnswer) (old new : Follower T tapes) (before after : List Bool) → IsAnswerGiven q a (course_of old before) (course_of new after) →
      IsNoted source (IsOtherHistory (list_of old) a) before after →
      IsReplyHeard (replies.Answer a) (record { source = source; question = q }) (course_of old before) (course_of new after)
  heard_answer source q a old new before after given noted = record { taken = given; noted = noted }

  pub heard_rejection : (source : ℕ) (q : Question) (why : QuestionRejection) (refusal : Option QuestionRejection) (replica : Follower T tapes) (before after : List Bool) →
      IsNoted source (IsSome refusal) before after → (IsSome refusal → IsRefusing why) →
      IsReplyHeard (replies.Rejected why) (record { source = source; question = q }) (course_of replica before) (course_of replica after)
  heard_rejection source q why refusal replica before after noted refuses =
      record { taken = record { list = refl; answers = refl }; noted = noted_for source before after noted refuses }

-- ---- of a replica that asks

module _ {T N C L : Type 0} {tapes : Tape T} {connections : Connection C} where
  -- no reply came
  hears_none : (upstream upstream' : Upstream N C L connections) (old new : Follower T tapes) → HasLearnedNothing old new → upstream'.heard.replies.items ≡ upstream.heard.replies.items → IsFewer upstream.refusals upstream'.refusals →
      Hears upstream old upstream' new
  hears_none upstream upstream' old new same log fewer = record {
    goes_on = stays_same old new same;
    heard = [];
    logged = log ∙ sym (append-nil upstream.heard.replies.items);
    are = none_heard (course_of old upstream.refusals) (course_of new upstream'.refusals) (record { kept = record { list = same.list; answers = same.answers }; refusals = fewer });
  }

  -- of the replica nothing has changed
  hears_quiet : (upstream upstream' : Upstream N C L connections) (replica : Follower T tapes) → upstream'.heard.replies.items ≡ upstream.heard.replies.items → IsFewer upstream.refusals upstream'.refusals → Hears upstream replica upstream' replica
  hears_quiet upstream upstream' replica log fewer =
      hears_none upstream upstream' replica replica (record { list = refl; received = refl; answers = refl; read = refl }) log fewer

  pub hears_nothing : (upstream : Upstream N C L connections) (replica : Follower T tapes) → Hears upstream replica upstream replica
  hears_nothing upstream replica =
      hears_none upstream upstream replica replica (record { list = refl; received = refl; answers = refl; read = refl }) refl (fewer_itself upstream.refusals)

  -- nothing came, or nothing that counts
  pub hears_still : (upstream upstream' : Upstream N C L connections) (replica : Follower T tapes) → upstream'.heard.replies.items ≡ upstream.heard.replies.items → upstream'.refusals ≡ upstream.refusals → Hears upstream replica upstream' replica
  hears_still upstream upstream' replica log refusals = hears_quiet upstream upstream' replica log (fewer_same upstream.refusals upstream'.refusals refusals)

  -- the connection ended
  pub hears_end : (source : ℕ) (upstream upstream' : Upstream N C L connections) (items : List (Reply × Asked)) (replica : Follower T tapes) → IsNoted source (IsSome {T = QuestionRejection} None) upstream.refusals upstream'.refusals →
      upstream'.heard.replies.items ≡ items → items ≡ upstream.heard.replies.items → Hears upstream replica upstream' replica
  hears_end source upstream upstream' items replica noted log before =
      hears_quiet upstream upstream' replica (log ∙ before) (noted_fewer source upstream.refusals upstream.refusals upstream'.refusals noted refl)

  hears_once : (upstream upstream' : Upstream N C L connections) (old new : Follower T tapes) (reply : Reply) (asked : Asked) → IsLaterReplica old new → upstream'.heard.replies.items ≡ upstream.heard.replies.items ++ (reply, asked) ∷ [] →
      IsReplyHeard reply asked (course_of old upstream.refusals) (course_of new upstream'.refusals) → Hears upstream old upstream' new
  hears_once upstream upstream' old new reply asked goes_on log heard = record {
    goes_on = goes_on;
    heard = (reply, asked) ∷ [];
    logged = log;
    are = one_heard (course_of old upstream.refusals) (course_of new upstream'.refusals) reply asked heard;
  }

  pub hears_twice : (first second third : Upstream N C L connections) (a b c : Follower T tapes) → Hears first a second b → Hears second b third c → Hears first a third c
  hears_twice first second third a b c one two = record {
    goes_on = goes_on_twice a b c one.goes_on two.goes_on;
    heard = one.heard ++ two.heard;
    logged = two.logged ∙ ap (λ (l : List (Reply × Asked)). l ++ two.heard) one.logged ∙ append_assoc first.heard.replies.items one.heard two.heard;
    are = are_heard_twice (course_of a first.refusals) (course_of b second.refusals) (course_of c third.refusals) one.heard two.heard one.are two.are;
  }

  pub hears_reply : (upstream upstream' : Upstream N C L connections) (items : List (Reply × Asked)) (old new : Follower T tapes) (reply : Reply) (asked : Asked) → IsLaterReplica old new →
      IsReplyHeard reply asked (course_of old upstream.refusals) (course_of new upstream'.refusals) → items ≡ upstream.heard.replies.items ++ (reply, asked) ∷ [] → upstream'.heard.replies.items ≡ items → Hears upstream old upstream' new
  hears_reply upstream upstream' items old new reply asked goes_on heard before log = hears_once upstream upstream' old new reply asked goes_on (log ∙ before) heard

  -- what came, then who was silent, then what was asked
  pub hears_turn : (first second third fourth : Upstream N C L connections) (a b c : Follower T tapes) → Hears first a second b → third.heard.replies.items ≡ second.heard.replies.items → IsFewer second.refusals third.refusals →
      Hears third b fourth c → Hears first a fourth c
  hears_turn first second third fourth a b c one log fewer two =
      hears_twice first third fourth a b c (hears_twice first second third a b b one (hears_quiet second third b log fewer)) two

  -- a question was put, and then something came
  pub hears_asked : (first second third : Upstream N C L connections) (a b c : Follower T tapes) → HasLearnedNothing a b → second.heard.replies.items ≡ first.heard.replies.items → IsFewer first.refusals second.refusals →
      Hears second b third c → Hears first a third c
  hears_asked first second third a b c same log fewer after = hears_twice first second third a b c (hears_none first second a b same log fewer) after

  -- what came afterwards leaves the replica as it is
  pub hears_then : (first second : Upstream N C L connections) (a b c : Follower T tapes) → Hears first a second b → HasLearnedNothing b c → Hears first a second c
  hears_then first second a b c one same =
      hears_twice first second second a b c one (hears_none second second b c same refl (fewer_itself second.refusals))

  -- what it hears of its sources, and what leaves it as it is
  pub acted : (first second : Upstream N C L connections) (a b c d e : Renderer T tapes) → Hears first a.follower second b.follower → c ≡ b → HasLearnedNothing c.follower d.follower → e ≡ d → Hears first a.follower second e.follower
  acted first second a b c d e heard same served kept =
      subst (λ (r : Renderer T tapes). Hears first a.follower second r.follower) (sym kept)
      (hears_then first second a.follower c.follower d.follower (subst (λ (r : Renderer T tapes). Hears first a.follower second r.follower) (sym same) heard) served)

module _ {T N C L : Type 0} (tapes : Tape T) {connections : Connection C} (event_loop : ReplicaLoop T N C L tapes connections) where
  -- its replica hasn't asked yet
  pub nothing_heard : (upstream : Upstream N C L connections) (follower : Follower T tapes) → event_loop.upstream ≡ upstream → event_loop.clients.renderer.follower ≡ follower → upstream.heard.replies.items ≡ [] → IsFewer [] upstream.refusals →
      answers_of follower ≡ [] → read_by follower ≡ numbered 1 (list_of follower) → HasHeardNothing tapes (state_of event_loop)
  nothing_heard upstream follower is of heard refusals answers read = record {
    heard = ap (λ (a : Upstream N C L connections). a.heard.replies.items) is ∙ heard;
    refusals = subst (λ (a : Upstream N C L connections). IsFewer [] a.refusals) (sym is) refusals;
    answers = ap (λ (f : Follower T tapes). answers_of f) of ∙ answers;
    read = subst (λ (f : Follower T tapes). read_by f ≡ numbered 1 (list_of f)) (sym of) read;
  }

  pub been_told : ∥ AreHeardOn (conversations_on connections event_loop.upstream.heard.connections.items) event_loop.upstream.heard.replies.items ∥₁ →
      ∥ CameByAnswers (read_by event_loop.clients.renderer.follower) (answers_of event_loop.clients.renderer.follower) (received_by event_loop.clients.renderer.follower) ∥₁ → HasBeenTold tapes (state_of event_loop)
  been_told come taken = record { come = come; taken = taken }
