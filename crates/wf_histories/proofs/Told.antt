-- What came on a replica's connections is what readers' ports of the farm replied.
use Rattle.std.proofs.Common.{◌≡◌, ◌∙◌, ℕ, ◌≤◌, List, [], ◌∷◌, ◌++◌, length, take, drop, refl, sym, ap, subst, arith, inl, inr, append_assoc, append-nil, length-append}
use Rattle.std.proofs.Math.Logic.{∥∥₁_elim, ∥∥₁_map, ∥∥₁_prop}
use Rattle.std.proofs.Math.Seq.{take-length}
use Rattle.std.proofs.lemmas.List.{drop_at, take-append-le, take_at}
use Rattle.std.specs.Int.{w16, w32, from_be_bytes, to_be_bytes}
use Rattle.wf_execution.specs.Execution.{Execution}
use Rattle.wf_execution.specs.Replica.{IsListOfFarm}
use Rattle.wf_def.specs.Definition.{Definition}
use Rattle.wf_model.specs.Chosen.{IsIn}
use Rattle.wf_model.specs.Message.{Message}
use Rattle.wf_reader.proofs.Parts.{length_of_body}
use Rattle.wf_reader.proofs.Sizes.{length_of_reply, stated}
use Rattle.wf_reader.specs.Answerer.{TellsNext}
use Rattle.wf_reader.specs.Question.{IsOfOtherVersion, IsQuestion, question_body, question_bytes, question_mark, reader_version}
use Rattle.wf_reader.specs.ReaderAnswer.{ReaderAnswer}
use Rattle.wf_reader.specs.Reply.{IsReply, body_bytes, reply_bytes}
use Rattle.wf_reader.specs.declared.question.Question.{Question}
use Rattle.wf_reader.specs.declared.reply.Reply.{Reply}
use Rattle.wf_reader.specs.declared.reply.Reply.TheVariants as replies
use Rattle.wf_readers_port.specs.Exchanges.{Exchange, questions_of, replies_of}
use Rattle.wf_replica.specs.Follower.{answers_of, list_of, read_by, received_by}
use Rattle.wf_replica.specs.LearnedList.{learned}
use Rattle.wf_replica.specs.Theorems.{AreAnsweredByFarm, AreReported, BeginningsAreServed, HeardAreReported, IsAnsweredByFarm, LearnedAreServed, ReadAreReported}
use Rattle.wf_replica_command.specs.Conversation.{AreHeardOn, AreReadReplies, Conversation, IsHeardOn, IsOneReply, asked_bytes, replied_bytes}
use Rattle.wf_replica_command.specs.Done.{HasServed}
use Rattle.wf_replica_command.specs.Heard.{AreHeard, Course, IsReplyTaken, course_of}
use Rattle.wf_replica_command.specs.ReplicaLoop.{follower_of}
use Rattle.wf_replica_command.specs.declared.asked.Asked.{Asked}
use Rattle.wf_safety.specs.Theorems.{IsBeginning}
use Rattle.wf_tape.specs.declared.tape.Tape.{Ghosts as Tape}
use Rattle.wf_histories.proofs.Turns.{in_either}
use Rattle.wf_histories.specs.Told.{AreAllReported, AreRepliedByFarm, AreReplicasOnFolder, AreToldByFarmOn, IsRepliedByFarm, IsToldByFarmOn, ReplicasAreTold}

-- ---- bytes

record IsCutAlike (a b x y : List ℕ) : Type 0 where
  front : a ≡ b
  rest : x ≡ y

-- what equal bytes begin with, if that is equally long
cut_alike : (a b x y : List ℕ) → length a ≡ length b → a ++ x ≡ b ++ y → IsCutAlike a b x y
cut_alike a b x y size same = record {
  front = sym (take_at a x (length b) size) ∙ ap (take (length b)) same ∙ take_at b y (length b) refl;
  rest = sym (drop_at a x (length b) size) ∙ ap (drop (length b)) same ∙ drop_at b y (length b) refl;
}

-- the length that a reply states stands in front of whatever follows
states : (reply : Reply) (x : List ℕ) → IsReply reply → from_be_bytes w32 (take 4 (reply_bytes reply ++ x)) ≡ length (body_bytes reply)
states reply x is =
    let four : 4 ≤ length (reply_bytes reply) = omega (arith, length_of_reply reply) in
    ap (from_be_bytes w32) (take-append-le 4 (reply_bytes reply) x four) ∙ stated (reply_bytes reply) [] reply is four (append-nil (reply_bytes reply))

-- no reply's bytes begin with another's
replies_cut : (one other : Reply) (x y : List ℕ) → IsReply one → IsReply other → reply_bytes one ++ x ≡ reply_bytes other ++ y → IsCutAlike (reply_bytes one) (reply_bytes other) x y
replies_cut one other x y is is_other same =
    let sizes : length (body_bytes one) ≡ length (body_bytes other) = sym (states one x is) ∙ ap (λ (s : List ℕ). from_be_bytes w32 (take 4 s)) same ∙ states other y is_other in
    cut_alike (reply_bytes one) (reply_bytes other) x y (omega (arith, sizes, length_of_reply one, length_of_reply other)) same

length_of_question : (q : Question) → IsQuestion q → length (question_bytes q) ≡ 76
unfolding question_bytes
length_of_question q is = omega (arith, length_of_body q is, length-append question_mark (to_be_bytes w16 reader_version ++ question_body q), length-append (to_be_bytes w16 reader_version) (question_body q))

-- a question isn't one of another version
not_of_other : (q : Question) → IsOfOtherVersion (question_bytes q) → ⊥
unfolding question_bytes
not_of_other q is =
    let behind : to_be_bytes w16 reader_version ++ question_body q ≡ is.behind = (cut_alike question_mark question_mark (to_be_bytes w16 reader_version ++ question_body q) is.behind refl is.begins).rest in
    is.other.other (sym (cut_alike (to_be_bytes w16 reader_version) is.other.version (question_body q) is.other.rest (sym is.other.two) (behind ∙ is.other.begins)).front)

-- ---- a connection

module _ {T : Type 0} (n : ℕ) (executions : ℕ → Execution T) where
  -- a list of the farm gave this reply to the question
  record IsTold (q : Question) (reply : Reply) : Type 0 where
    source : List Definition
    served : IsListOfFarm n executions source
    told : TellsNext source q reply

  unfoldable AreTold : List (Question × Reply) → Type 0
  AreTold [] = Unit {0}
  AreTold (x ∷ replied) = IsTold x.0 x.1 × AreTold replied

  record IsFirstTold (q : Question) (reply : Reply) (rest replies : List ℕ) : Type 0 where
    told : IsTold q reply
    behind : rest ≡ replies

  -- the reply that came first is the one to the question that was asked first
  first_told : (q : Question) (reply : Reply) (exchange : Exchange) (rest others : List ℕ) → IsQuestion q → IsOneReply reply → IsRepliedByFarm n executions exchange → exchange.0.items ≡ question_bytes q
      → reply_bytes reply ++ rest ≡ exchange.1.items ++ others → IsFirstTold q reply rest others
  first_told q reply exchange rest others is one by asked came = elim by.replied.replied.reply [
    | inl answered ↦
        let same_question : q ≡ answered.0 = answered.1.only q [] is (asked ∙ sym (append-nil (question_bytes q))) in
        let cut : IsCutAlike (reply_bytes reply) (reply_bytes answered.2.reply) rest others =
        replies_cut reply answered.2.reply rest others one.is_reply answered.2.is_encoded (came ∙ ap (λ (s : List ℕ). s ++ others) answered.2.written) in
        let same_reply : answered.2.reply ≡ reply = one.only answered.2.reply answered.2.is_encoded (sym cut.front) in
        record {
          told = record {
            source = by.source;
            served = by.served;
            told = subst (λ (r : Reply). TellsNext by.source q r) same_reply (subst (λ (p : Question). TellsNext by.source p answered.2.reply) (sym same_question) answered.2.told);
          };
          behind = cut.rest;
        }
    | inr other ↦ absurd (not_of_other q (subst IsOfOtherVersion asked other.0))
  ]

  all_told : (replied : List (Question × Reply)) (exchanges : List Exchange) (rest later : List ℕ) → AreReadReplies replied → AreRepliedByFarm n executions exchanges
      → replied_bytes replied ++ rest ≡ replies_of exchanges → questions_of exchanges ++ later ≡ asked_bytes replied → AreTold replied
  unfolding AreTold AreReadReplies AreRepliedByFarm replied_bytes asked_bytes replies_of questions_of
  all_told [] exchanges rest later read by came asked = tt
  all_told (x ∷ replied) [] rest later read by came asked =
      absurd (omega (arith, ap length came, length-append (reply_bytes x.1 ++ replied_bytes replied) rest, length-append (reply_bytes x.1) (replied_bytes replied), length_of_reply x.1))
  all_told (x ∷ replied) (exchange ∷ exchanges) rest later read by came asked =
      let questions : IsCutAlike exchange.0.items (question_bytes x.0) (questions_of exchanges ++ later) (asked_bytes replied) =
      cut_alike exchange.0.items (question_bytes x.0) (questions_of exchanges ++ later) (asked_bytes replied) (by.0.replied.replied.whole ∙ sym (length_of_question x.0 read.0))
      (sym (append_assoc exchange.0.items (questions_of exchanges) later) ∙ asked) in
      let first : IsFirstTold x.0 x.1 (replied_bytes replied ++ rest) (replies_of exchanges) =
      first_told x.0 x.1 exchange (replied_bytes replied ++ rest) (replies_of exchanges) read.0 read.1 by.0 questions.front (sym (append_assoc (reply_bytes x.1) (replied_bytes replied) rest) ∙ came) in
      (first.told, all_told replied exchanges rest later read.2 by.1 first.behind questions.rest)

  last_told : (before : List (Question × Reply)) (q : Question) (reply : Reply) → AreTold (before ++ (q, reply) ∷ []) → IsTold q reply
  unfolding AreTold
  last_told [] q reply are = are.0
  last_told (x ∷ before) q reply are = last_told before q reply are.1

  told_on : (conversation : Conversation) (q : Question) (reply : Reply) → IsHeardOn conversation reply q → IsToldByFarmOn n executions conversation → IsTold q reply
  told_on conversation q reply heard told =
      let came : replied_bytes conversation.replied ++ told.came.0 ≡ replies_of told.exchanges = ap (λ (s : List ℕ). s ++ told.came.0) (sym heard.came) ∙ told.came.1 in
      last_told heard.before q reply (subst AreTold heard.last (all_told conversation.replied told.exchanges told.came.0 told.asked.0 heard.read told.by_farm came (told.asked.1 ∙ heard.sent)))

  -- ---- what a replica heard

  unfoldable AreRepliesTold : List (Reply × Asked) → Type 0
  AreRepliesTold [] = Unit {0}
  AreRepliesTold (x ∷ heard) = IsTold x.1.question x.0 × AreRepliesTold heard

  replies_told : (conversations : List Conversation) (heard : List (Reply × Asked)) → AreHeardOn conversations heard → AreToldByFarmOn n executions conversations → AreRepliesTold heard
  unfolding AreHeardOn AreToldByFarmOn AreRepliesTold
  replies_told [] [] are told = tt
  replies_told [] (x ∷ heard) are told = absurd are
  replies_told (conversation ∷ conversations) [] are told = absurd are
  replies_told (conversation ∷ conversations) (x ∷ heard) are told = (told_on conversation x.1.question x.0 are.0 told.0, replies_told conversations heard are.1 told.1)

  one_more : (answers answers' : List (ReaderAnswer × Question)) (a : ReaderAnswer) (q : Question) → answers' ≡ answers ++ (a, q) ∷ [] → IsAnsweredByFarm n executions (a, q) → AreAnsweredByFarm n executions answers → AreAnsweredByFarm n executions answers'
  one_more answers answers' a q more is are = λ answer there. elim (in_either answer answers ((a, q) ∷ []) (subst (λ (l : List (ReaderAnswer × Question)). IsIn answer l) more there)) [
    | inl before ↦ are answer before
    | inr last ↦ elim last [
      | inl same ↦ subst (λ (x : ReaderAnswer × Question). IsAnsweredByFarm n executions x) (sym same) is
      | inr none ↦ absurd none
    ]
  ]

  taken_told : (q : Question) (reply : Reply) (old new : Course) → IsReplyTaken q reply old new → IsTold q reply → AreAnsweredByFarm n executions old.answers → AreAnsweredByFarm n executions new.answers
  taken_told q (replies.Answer a) old new taken told are = one_more old.answers new.answers a q taken.answers (record { source = told.source; served = told.served; definitions = told.told }) are
  taken_told q (replies.Rejected why) old new taken told are = subst (AreAnsweredByFarm n executions) (sym taken.answers) are

  answers_told : (old new : Course) (heard : List (Reply × Asked)) → AreHeard old heard new → AreRepliesTold heard → AreAnsweredByFarm n executions old.answers → AreAnsweredByFarm n executions new.answers
  unfolding AreHeard AreRepliesTold
  answers_told old new [] quiet told are = subst (AreAnsweredByFarm n executions) (sym quiet.kept.answers) are
  answers_told old new (x ∷ heard) course told are =
      answers_told course.0 new heard course.2 told.1 (taken_told x.1.question x.0 old course.0 course.1.taken told.0 are)

-- ---- a replica

module _ {N R : Type 0} (shelves : Tape R) (reported : HeardAreReported N) (read_reported : ReadAreReported N) (n : ℕ) (executions : ℕ → Execution N) (served : HasServed shelves)
    (begun : IsListOfFarm n executions (list_of (follower_of served.begun))) (told : AreToldByFarmOn n executions served.event_loop.conversations) where
  answered : AreHeardOn served.event_loop.conversations served.event_loop.heard → AreAnsweredByFarm n executions (answers_of (follower_of served.event_loop))
  answered come =
      let logged : served.event_loop.heard ≡ served.heard.heard = served.heard.logged ∙ ap (λ (l : List (Reply × Asked)). l ++ served.heard.heard) served.unheard.heard in
      let first : AreAnsweredByFarm n executions (answers_of (follower_of served.begun)) = subst (AreAnsweredByFarm n executions) (sym served.unheard.answers) (λ answer none. absurd none) in
      answers_told n executions (course_of served.begun.follower served.begun.refusals) (course_of served.event_loop.follower served.event_loop.refusals) served.heard.heard served.heard.are
      (subst (AreRepliesTold n executions) logged (replies_told n executions served.event_loop.conversations served.event_loop.heard come told)) first

  read_told : AreReported n executions (read_by (follower_of served.event_loop))
  read_told = subst (AreReported n executions) (sym (served.heard.goes_on.read ∙ served.unheard.read)) (read_reported n executions (list_of (follower_of served.begun)) begun)

  all_reported : ∥ AreReported n executions (received_by (follower_of served.event_loop)) ∥₁
  all_reported = ∥∥₁_elim served.told.come ∥∥₁_prop (λ come. reported n executions (read_by (follower_of served.event_loop)) (received_by (follower_of served.event_loop)) (answers_of (follower_of served.event_loop))
      served.told.taken read_told (answered come))

-- ---- on a folder

module _ {N R : Type 0} (shelves : Tape R) (learned_served : LearnedAreServed N) (beginning : BeginningsAreServed N) (n : ℕ) (executions : ℕ → Execution N) where
  none_served : IsListOfFarm n executions []
  unfolding learned
  none_served = learned_served n executions [] (λ m none. absurd none) 0

  pub begun_served : (list left : List Definition) → IsBeginning list left → IsListOfFarm n executions left → IsListOfFarm n executions list
  begun_served list left begins of_farm = subst (IsListOfFarm n executions) (ap (take (length list)) (sym begins.1) ∙ take_at list begins.0 (length list) refl) (beginning n executions left of_farm (length list))

  pub list_served : (served : HasServed shelves) → AreReported n executions (received_by (follower_of served.event_loop)) → IsListOfFarm n executions (list_of (follower_of served.event_loop))
  list_served served told =
      let received : List (Message Definition) = received_by (follower_of served.event_loop) in
      subst (IsListOfFarm n executions) (ap (learned []) (take-length received) ∙ served.lived) (learned_served n executions received told (length received))

module _ {N R : Type 0} (shelves : Tape R) (reported : HeardAreReported N) (read_reported : ReadAreReported N) (learned_served : LearnedAreServed N) (beginning : BeginningsAreServed N) (n : ℕ) (executions : ℕ → Execution N) where
  on_folder : (left : List Definition) (processes : List (HasServed shelves)) → ∥ IsListOfFarm n executions left ∥₁ → AreReplicasOnFolder shelves n executions left processes → AreAllReported shelves n executions processes
  unfolding AreReplicasOnFolder AreAllReported
  on_folder left [] of_farm are = tt
  on_folder left (served ∷ later) of_farm are =
      let told : ∥ AreReported n executions (received_by (follower_of served.event_loop)) ∥₁ =
      ∥∥₁_elim of_farm ∥∥₁_prop (λ is. ∥∥₁_elim are.1 ∥∥₁_prop (λ by.
      all_reported shelves reported read_reported n executions served (begun_served shelves learned_served beginning n executions (list_of (follower_of served.begun)) left are.0 is) by)) in
      (told, on_folder (list_of (follower_of served.event_loop)) later (∥∥₁_map told (list_served shelves learned_served beginning n executions served)) are.2)

pub replicas_are_told : {N R : Type 0} (shelves : Tape R) → HeardAreReported N → ReadAreReported N → LearnedAreServed N → BeginningsAreServed N → ReplicasAreTold N shelves
replicas_are_told shelves reported read_reported learned_served beginning = λ n executions processes are.
    on_folder shelves reported read_reported learned_served beginning n executions [] processes ∣ none_served shelves learned_served beginning n executions ∣₁ are
