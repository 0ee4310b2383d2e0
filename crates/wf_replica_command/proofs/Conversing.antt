-- What was asked and replied on a connection, as it is written and read.
use Rattle.std.proofs.Common.{◌≡◌, ◌∙◌, ℕ, ◌+◌, ◌≤◌, List, [], ◌∷◌, ◌++◌, length, map, take, drop, refl, sym, ap, subst, arith, append_assoc, append-nil, length-drop}
use Rattle.std.proofs.Math.Logic.{∥∥₁_map, ∥∥₁_map₂}
use Rattle.std.proofs.Math.Seq.{take-add, take-length}
use Rattle.std.specs.Prelude.{Option, Some, None, Result, Ok, Err, IfOk}
use Rattle.wf_past.specs.declared.past.Past.{Past}
use Rattle.wf_reader.specs.Question.{IsQuestion, question_bytes}
use Rattle.wf_reader.specs.Reply.{IsReply, reply_bytes}
use Rattle.wf_reader.specs.ReplyReader.{IsReplyRead}
use Rattle.wf_reader.specs.declared.fault.ReplyFault.{ReplyFault}
use Rattle.wf_reader.specs.declared.question.Question.{Question}
use Rattle.wf_reader.specs.declared.reply.Reply.{Reply}
use Rattle.wf_replica_command.specs.Conversation.{AreHeardOn, AreReadReplies, Conversation, IsHeardOn, IsOneReply, asked_bytes, conversation_on, conversations_on, part_asked, part_written, replied_bytes}
use Rattle.wf_replica_command.specs.declared.asked.Asked.{Asked}
use Rattle.wf_replica_command.specs.declared.open_question.OpenQuestion.{OpenQuestion}
use Rattle.wf_sockets.specs.declared.connection.Connection.{Ghosts as Connection}

-- ---- lists

asked_append : (first second : List (Question × Reply)) → asked_bytes (first ++ second) ≡ asked_bytes first ++ asked_bytes second
unfolding asked_bytes
asked_append [] second = refl
asked_append (x ∷ first) second = ap (λ (s : List ℕ). question_bytes x.0 ++ s) (asked_append first second) ∙ sym (append_assoc (question_bytes x.0) (asked_bytes first) (asked_bytes second))

replied_append : (first second : List (Question × Reply)) → replied_bytes (first ++ second) ≡ replied_bytes first ++ replied_bytes second
unfolding replied_bytes
replied_append [] second = refl
replied_append (x ∷ first) second = ap (λ (s : List ℕ). reply_bytes x.1 ++ s) (replied_append first second) ∙ sym (append_assoc (reply_bytes x.1) (replied_bytes first) (replied_bytes second))

asked_one : (replied replied' : List (Question × Reply)) (q : Question) (reply : Reply) → replied' ≡ replied ++ (q, reply) ∷ [] → asked_bytes replied' ≡ asked_bytes replied ++ question_bytes q
unfolding asked_bytes
asked_one replied replied' q reply one = ap asked_bytes one ∙ asked_append replied ((q, reply) ∷ []) ∙ ap (λ (s : List ℕ). asked_bytes replied ++ s) (append-nil (question_bytes q))

replied_one : (replied replied' : List (Question × Reply)) (q : Question) (reply : Reply) → replied' ≡ replied ++ (q, reply) ∷ [] → replied_bytes replied' ≡ replied_bytes replied ++ reply_bytes reply
unfolding replied_bytes
replied_one replied replied' q reply one = ap replied_bytes one ∙ replied_append replied ((q, reply) ∷ []) ∙ ap (λ (s : List ℕ). replied_bytes replied ++ s) (append-nil (reply_bytes reply))

read_more : (replied : List (Question × Reply)) (q : Question) (reply : Reply) → AreReadReplies replied → IsQuestion q → IsOneReply reply → AreReadReplies (replied ++ (q, reply) ∷ [])
unfolding AreReadReplies
read_more [] q reply are is one = (is, one, tt)
read_more (x ∷ replied) q reply are is one = (are.0, are.1, read_more replied q reply are.2 is one)

-- ---- a connection on which nothing was asked yet

pub nothing_asked : (sent : List ℕ) (replied : List (Question × Reply)) (open_question : Option OpenQuestion) → sent ≡ [] → replied ≡ [] → open_question ≡ None → sent ≡ asked_bytes replied ++ part_asked open_question
unfolding asked_bytes
nothing_asked sent replied open_question none no_reply not_open = none ∙ sym (ap (λ (s : List (Question × Reply)). asked_bytes s ++ part_asked open_question) no_reply ∙ ap part_asked not_open)

pub nothing_replied : (came part : List ℕ) (replied : List (Question × Reply)) → came ≡ [] → replied ≡ [] → part ≡ [] → came ≡ replied_bytes replied ++ part
unfolding replied_bytes
nothing_replied came part replied none no_reply empty = none ∙ sym (ap (λ (s : List (Question × Reply)). replied_bytes s ++ part) no_reply ∙ empty)

pub none_read : (replied : List (Question × Reply)) → replied ≡ [] → ∥ AreReadReplies replied ∥₁
unfolding AreReadReplies
none_read replied none = ∣ subst AreReadReplies (sym none) tt ∣₁

-- ---- a question is asked, and written

pub nothing_written : (sent front : List ℕ) (old new : Option OpenQuestion) (asked : OpenQuestion) → sent ≡ front ++ part_asked old → old ≡ None → new ≡ Some asked → asked.written ≡ 0 → sent ≡ front ++ part_asked new
nothing_written sent front old new asked is none some begun =
    is ∙ ap (λ (o : Option OpenQuestion). front ++ part_asked o) none ∙ ap (λ (n : ℕ). front ++ take n asked.bytes.items) (sym begun) ∙ ap (λ (o : Option OpenQuestion). front ++ part_asked o) (sym some)

pub within_rest : (written count : ℕ) (bytes : List ℕ) → written ≤ length bytes → count ≤ length (drop written bytes) → written + count ≤ length bytes
within_rest written count bytes within is = omega (arith, within, is, length-drop written bytes)

pub more_written : (front sent sent' bytes bytes' : List ℕ) (written written' count : ℕ) → sent' ≡ sent ++ take count (drop written bytes) → written' ≡ written + count → bytes' ≡ bytes
    → sent ≡ front ++ take written bytes → sent' ≡ front ++ take written' bytes'
more_written front sent sent' bytes bytes' written written' count more is same before =
    more ∙ ap (λ (s : List ℕ). s ++ take count (drop written bytes)) before ∙ append_assoc front (take written bytes) (take count (drop written bytes))
    ∙ ap (λ (s : List ℕ). front ++ s) (sym (take-add written count bytes) ∙ ap (λ (n : ℕ). take n bytes) (sym is) ∙ ap (take written') (sym same))

-- all of it is written
pub all_written : (bytes spelled : List ℕ) (written : ℕ) → bytes ≡ spelled → written ≤ length bytes → length bytes ≤ written → take written bytes ≡ spelled
all_written bytes spelled written encoded within all =
    let whole : written ≡ length bytes = omega (arith, within, all) in
    ap (λ (n : ℕ). take n bytes) whole ∙ take-length bytes ∙ encoded

-- ---- bytes come

-- none came, or none were sent
pub none_moved : (all all' front part : List ℕ) → all' ≡ all ++ [] → all ≡ front ++ part → all' ≡ front ++ part
none_moved all all' front part none is = none ∙ append-nil all ∙ is

-- a piece came, which a reply may have been taken out of
pub piece_taken : (came came' front part part' piece taken : List ℕ) → came' ≡ came ++ piece → taken ++ part' ≡ part ++ piece → came ≡ front ++ part → came' ≡ front ++ (taken ++ part')
piece_taken came came' front part part' piece taken more is before =
    more ∙ ap (λ (s : List ℕ). s ++ piece) before ∙ append_assoc front part piece ∙ ap (λ (s : List ℕ). front ++ s) (sym is)

-- all that came is a reply
pub whole_taken : (bytes all part taken : List ℕ) → bytes ≡ all → bytes ≡ taken → part ≡ [] → taken ++ part ≡ all
whole_taken bytes all part taken is read none = ap (λ (s : List ℕ). taken ++ s) none ∙ append-nil taken ∙ sym read ∙ is

-- what was read as a reply is that one alone
pub one_reply : (bytes : List ℕ) (result : Result Reply ReplyFault) → IfOk result IsReply → IfOk result (λ reply. bytes ≡ reply_bytes reply)
    → ((reply : Reply) → IsReply reply → bytes ≡ reply_bytes reply → IsReplyRead result reply) → IfOk result IsOneReply
one_reply bytes (Ok reply) is read each = record { is_reply = is; only = λ other is_other same. sym (each other is_other (read ∙ sym same)) }
one_reply bytes (Err fault) is read each = tt

-- ---- a reply has come

pub asked_next : (sent : List ℕ) (replied replied' : List (Question × Reply)) (asked : OpenQuestion) (open_question : Option OpenQuestion) (q : Question) (reply : Reply) → sent ≡ asked_bytes replied ++ part_written asked
    → part_written asked ≡ question_bytes q → replied' ≡ replied ++ (q, reply) ∷ [] → open_question ≡ None → sent ≡ asked_bytes replied' ++ part_asked open_question
asked_next sent replied replied' asked open_question q reply is whole one closed =
    is ∙ ap (λ (s : List ℕ). asked_bytes replied ++ s) whole ∙ sym (asked_one replied replied' q reply one) ∙ sym (append-nil (asked_bytes replied')) ∙ ap (λ (o : Option OpenQuestion). asked_bytes replied' ++ part_asked o) (sym closed)

pub replied_next : (came part : List ℕ) (replied replied' : List (Question × Reply)) (q : Question) (reply : Reply) → came ≡ replied_bytes replied ++ (reply_bytes reply ++ part) → replied' ≡ replied ++ (q, reply) ∷ []
    → came ≡ replied_bytes replied' ++ part
replied_next came part replied replied' q reply is one =
    is ∙ sym (append_assoc (replied_bytes replied) (reply_bytes reply) part) ∙ ap (λ (s : List ℕ). s ++ part) (sym (replied_one replied replied' q reply one))

pub read_next : (replied replied' : List (Question × Reply)) (q : Question) (reply : Reply) → ∥ AreReadReplies replied ∥₁ → IsQuestion q → IsOneReply reply → replied' ≡ replied ++ (q, reply) ∷ [] → ∥ AreReadReplies replied' ∥₁
read_next replied replied' q reply are is one more = ∥∥₁_map are (λ read. subst AreReadReplies (sym more) (read_more replied q reply read is one))

-- ---- it is logged

module _ {C : Type 0} (connections : Connection C) where
  pub heard_on : (connection : C) (past past' : Past Question Reply) (asked : OpenQuestion) (part : List ℕ) (q : Question) (reply : Reply) → connections.came connection ≡ replied_bytes past.items ++ (reply_bytes reply ++ part) → part ≡ []
      → connections.sent connection ≡ asked_bytes past.items ++ part_written asked → part_written asked ≡ question_bytes q → IsQuestion q → IsOneReply reply → ∥ AreReadReplies past.items ∥₁
      → past'.items ≡ past.items ++ (q, reply) ∷ [] → ∥ IsHeardOn (conversation_on connections connection past') reply q ∥₁
  heard_on connection past past' asked part q reply came none sent whole is one are more = ∥∥₁_map (read_next past.items past'.items q reply are is one more) (λ read. record {
    came = replied_next (connections.came connection) part past.items past'.items q reply came more ∙ ap (λ (s : List ℕ). replied_bytes past'.items ++ s) none ∙ append-nil (replied_bytes past'.items);
    sent = sent ∙ ap (λ (s : List ℕ). asked_bytes past.items ++ s) whole ∙ sym (asked_one past.items past'.items q reply more);
    read = read;
    before = past.items;
    last = more;
  })

  pub none_heard_on : (log : List (C × Past Question Reply)) (heard : List (Reply × Asked)) → log ≡ [] → heard ≡ [] → ∥ AreHeardOn (conversations_on connections log) heard ∥₁
  unfolding AreHeardOn
  none_heard_on log heard none no_reply =
      ∣ subst (λ (l : List (C × Past Question Reply)). AreHeardOn (conversations_on connections l) heard) (sym none) (subst (λ (h : List (Reply × Asked)). AreHeardOn [] h) (sym no_reply) tt) ∣₁

  one_more : (log : List (C × Past Question Reply)) (heard : List (Reply × Asked)) (entry : C × Past Question Reply) (x : Reply × Asked) → AreHeardOn (conversations_on connections log) heard
      → IsHeardOn (conversation_on connections entry.0 entry.1) x.0 x.1.question → AreHeardOn (conversations_on connections (log ++ entry ∷ [])) (heard ++ x ∷ [])
  unfolding AreHeardOn
  one_more [] [] entry x are is = (is, tt)
  one_more [] (y ∷ heard) entry x are is = absurd are
  one_more (other ∷ log) [] entry x are is = absurd are
  one_more (other ∷ log) (y ∷ heard) entry x are is = (are.0, one_more log heard entry x are.1 is)

  pub one_more_heard_on : (log log' : List (C × Past Question Reply)) (heard heard' : List (Reply × Asked)) (connection : C) (past : Past Question Reply) (reply : Reply) (asked : Asked)
      → log' ≡ log ++ (connection, past) ∷ [] → heard' ≡ heard ++ (reply, asked) ∷ [] → ∥ AreHeardOn (conversations_on connections log) heard ∥₁ → ∥ IsHeardOn (conversation_on connections connection past) reply asked.question ∥₁
      → ∥ AreHeardOn (conversations_on connections log') heard' ∥₁
  one_more_heard_on log log' heard heard' connection past reply asked more more_heard are is = ∥∥₁_map₂ are is (λ all one.
      subst (λ (l : List (C × Past Question Reply)). AreHeardOn (conversations_on connections l) heard') (sym more)
      (subst (λ (h : List (Reply × Asked)). AreHeardOn (conversations_on connections (log ++ (connection, past) ∷ [])) h) (sym more_heard) (one_more log heard (connection, past) (reply, asked) all one)))
