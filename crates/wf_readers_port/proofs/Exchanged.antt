-- What came from a reader and was sent to it, as it asks and is replied to.
use Rattle.std.proofs.Common.{◌≡◌, ℕ, List, [], ◌∷◌, ◌++◌, length, take, drop, refl, sym, ap, ◌∙◌, arith, Vec}
use Rattle.std.proofs.lemmas.List.{append-nil, append_assoc, drop-drop, take-append-drop}
use Rattle.std.specs.Prelude.{Result, Ok}
use Rattle.std.specs.declared.alloc.Global.{Global}
use Rattle.wf_client.specs.ResponseBuffer.{Outgoing, IsTakenUp, rest_of}
use Rattle.wf_def.specs.Definition.{Definition}
use Rattle.wf_reader.specs.Question.{IsQuestion, question_bytes, question_length}
use Rattle.wf_reader.specs.declared.answerer.Answerer.{Answerer}
use Rattle.wf_reader.specs.declared.fault.QuestionFault.{QuestionFault}
use Rattle.wf_reader.specs.declared.question.Question.{Question}
use Rattle.wf_readers_port.specs.Exchanges.{AreRepliedBy, Exchange, HasConversed, questions_of, replies_of}
use Rattle.wf_readers_port.specs.QuestionReplies.{BeginsWithQuestion, RepliesTo}

-- ---- bytes

questions_append : (first second : List Exchange) → questions_of (first ++ second) ≡ questions_of first ++ questions_of second
unfolding questions_of
questions_append [] second = refl
questions_append (exchange ∷ first) second = ap (λ (s : List ℕ). exchange.0.items ++ s) (questions_append first second) ∙ sym (append_assoc exchange.0.items (questions_of first) (questions_of second))

replies_append : (first second : List Exchange) → replies_of (first ++ second) ≡ replies_of first ++ replies_of second
unfolding replies_of
replies_append [] second = refl
replies_append (exchange ∷ first) second = ap (λ (s : List ℕ). exchange.1.items ++ s) (replies_append first second) ∙ sym (append_assoc exchange.1.items (replies_of first) (replies_of second))

-- nothing was asked yet
pub asked_nothing : (came question : List ℕ) (exchanges : List Exchange) → came ≡ [] → exchanges ≡ [] → question ≡ [] → came ≡ questions_of exchanges ++ question
unfolding questions_of
asked_nothing came question exchanges none no_exchange empty = none ∙ sym (ap (λ (s : List Exchange). questions_of s ++ question) no_exchange ∙ empty)

pub replied_nothing : (sent : List ℕ) (reply : Outgoing) (exchanges : List Exchange) → sent ≡ [] → exchanges ≡ [] → reply ≡ record { bytes = []; done = 0; failures = 0 } → sent ++ rest_of reply ≡ replies_of exchanges
unfolding replies_of
replied_nothing sent reply exchanges none no_exchange empty = ap (λ (s : List ℕ). s ++ rest_of reply) none ∙ ap rest_of empty ∙ sym (ap replies_of no_exchange)

-- the connection was watched
pub asked_same : (before after all : List ℕ) → after ≡ before → before ≡ all → after ≡ all
asked_same before after all same is = same ∙ is

pub replied_same : (sent sent' rest all : List ℕ) → sent' ≡ sent → sent ++ rest ≡ all → sent' ++ rest ≡ all
replied_same sent sent' rest all same is = ap (λ (s : List ℕ). s ++ rest) same ∙ is

-- a question is replied to
pub asked_one : (came question : List ℕ) (asked bytes : Vec ℕ Global) (exchanges exchanges' : List Exchange) → exchanges' ≡ exchanges ++ (asked, bytes) ∷ [] → question ≡ []
    → came ≡ questions_of exchanges ++ asked.items → came ≡ questions_of exchanges' ++ question
unfolding questions_of
asked_one came question asked bytes exchanges exchanges' one empty is =
    let e : questions_of exchanges' ≡ questions_of exchanges ++ asked.items = ap questions_of one ∙ questions_append exchanges ((asked, bytes) ∷ []) ∙ ap (λ (s : List ℕ). questions_of exchanges ++ s) (append-nil asked.items) in
    is ∙ sym e ∙ sym (append-nil (questions_of exchanges')) ∙ ap (λ (s : List ℕ). questions_of exchanges' ++ s) (sym empty)

pub replied_one : (sent : List ℕ) (asked bytes : Vec ℕ Global) (reply reply' : Outgoing) (exchanges exchanges' : List Exchange) → exchanges' ≡ exchanges ++ (asked, bytes) ∷ []
    → rest_of reply ≡ [] → rest_of reply' ≡ bytes.items → sent ++ rest_of reply ≡ replies_of exchanges → sent ++ rest_of reply' ≡ replies_of exchanges'
unfolding replies_of
replied_one sent asked bytes reply reply' exchanges exchanges' one taken whole is =
    let before : sent ≡ replies_of exchanges = sym (append-nil sent) ∙ ap (λ (s : List ℕ). sent ++ s) (sym taken) ∙ is in
    let e : replies_of exchanges' ≡ replies_of exchanges ++ bytes.items = ap replies_of one ∙ replies_append exchanges ((asked, bytes) ∷ []) ∙ ap (λ (s : List ℕ). replies_of exchanges ++ s) (append-nil bytes.items) in
    ap (λ (s : List ℕ). sent ++ s) whole ∙ ap (λ (s : List ℕ). s ++ bytes.items) before ∙ sym e

-- the reader took the next bytes
pub given : (sent sent' all : List ℕ) (count : ℕ) (reply reply' : Outgoing) → IsTakenUp count reply reply' → sent' ≡ sent ++ take count (rest_of reply)
    → sent ++ rest_of reply ≡ all → sent' ++ rest_of reply' ≡ all
given sent sent' all count reply reply' advanced more is =
    let rest : List ℕ = rest_of reply in
    let left : rest_of reply' ≡ drop count (drop reply.done reply.bytes) = ap rest_of advanced ∙ sym (drop-drop count reply.done reply.bytes) in
    ap (λ (s : List ℕ). s ++ rest_of reply') more ∙ ap (λ (s : List ℕ). (sent ++ take count rest) ++ s) left ∙ append_assoc sent (take count rest) (drop count rest)
    ∙ ap (λ (s : List ℕ). sent ++ s) (take-append-drop count rest) ∙ is

-- it took none
pub given_none : (sent sent' rest all : List ℕ) → sent' ≡ sent ++ [] → sent ++ rest ≡ all → sent' ++ rest ≡ all
given_none sent sent' rest all none is = ap (λ (s : List ℕ). s ++ rest) (none ∙ append-nil sent) ∙ is

pub nothing_left : (rest : List ℕ) → length rest ≡ 0 → rest ≡ []
nothing_left [] none = refl
nothing_left (byte ∷ rest) none = absurd (omega (arith, none))

-- bytes came
pub received : (came came' front question question' piece : List ℕ) → came' ≡ came ++ piece → question' ≡ question ++ piece → came ≡ front ++ question → came' ≡ front ++ question'
received came came' front question question' piece came_is question_is is =
    came_is ∙ ap (λ (s : List ℕ). s ++ piece) is ∙ append_assoc front question piece ∙ ap (λ (s : List ℕ). front ++ s) (sym question_is)

-- none came
pub received_none : (came came' front question : List ℕ) → came' ≡ came ++ [] → came ≡ front ++ question → came' ≡ front ++ question
received_none came came' front question came_is is = came_is ∙ append-nil came ∙ is

-- bytes that are read as a question begin with no other
pub begins_with : (bytes : List ℕ) (result : Result Question QuestionFault) (question : Question) → result ≡ Ok question → (rest : List ℕ) × (bytes ≡ question_bytes question ++ rest)
    → ((other : Question) (after : List ℕ) → IsQuestion other → bytes ≡ question_bytes other ++ after → result ≡ Ok other) → BeginsWithQuestion bytes question
begins_with bytes result question read front each = record {
  rest = front.0;
  begins = front.1;
  only = λ other after is begins. let same : Ok question ≡ Ok other = sym read ∙ each other after is begins in cc;
}

-- ---- exchanges

pub replied_append : (own : Answerer) (history : List Definition) (digests : List (List ℕ)) (first second : List Exchange) → AreRepliedBy own history digests first → AreRepliedBy own history digests second → AreRepliedBy own history digests (first ++ second)
unfolding AreRepliedBy
replied_append own history digests [] second are more = more
replied_append own history digests (exchange ∷ first) second are more = (are.0, replied_append own history digests first second are.1 more)

pub conversed_nothing : (own : Answerer) (history : List Definition) (digests : List (List ℕ)) (asked all asked' all' : List Exchange) → asked' ≡ asked → all' ≡ all → HasConversed own history digests asked all asked' all'
unfolding AreRepliedBy
conversed_nothing own history digests asked all asked' all' asked_is all_is = record {
  more = [];
  asked_more = asked_is ∙ sym (append-nil asked);
  logged = all_is ∙ sym (append-nil all);
  replied = tt;
}

pub conversed_one : (own : Answerer) (history : List Definition) (digests : List (List ℕ)) (question reply : Vec ℕ Global) (asked all asked' all' : List Exchange)
    → asked' ≡ asked ++ (question, reply) ∷ [] → all' ≡ all ++ (question, reply) ∷ [] → length question.items ≡ question_length
    → RepliesTo own history digests question.items [] reply.items
    → HasConversed own history digests asked all asked' all'
unfolding AreRepliedBy
conversed_one own history digests question reply asked all asked' all' asked_is all_is whole replied = record {
  more = (question, reply) ∷ [];
  asked_more = asked_is;
  logged = all_is;
  replied = (record { whole = whole; reply = replied }, tt);
}

pub conversed_twice : (own : Answerer) (history : List Definition) (digests : List (List ℕ)) (asked all asked' all' asked'' all'' : List Exchange)
    → HasConversed own history digests asked all asked' all' → HasConversed own history digests asked' all' asked'' all'' → HasConversed own history digests asked all asked'' all''
conversed_twice own history digests asked all asked' all' asked'' all'' first second = record {
  more = first.more ++ second.more;
  asked_more = second.asked_more ∙ ap (λ (s : List Exchange). s ++ second.more) first.asked_more ∙ append_assoc asked first.more second.more;
  logged = second.logged ∙ ap (λ (s : List Exchange). s ++ second.more) first.logged ∙ append_assoc all first.more second.more;
  replied = replied_append own history digests first.more second.more first.replied second.replied;
}
