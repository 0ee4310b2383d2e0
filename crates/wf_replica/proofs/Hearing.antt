-- What a replica reads of its tape and hears by answers.
use Rattle.std.proofs.Common.{◌≡◌, ◌∙◌, ℕ, ◌+◌, suc, List, [], ◌∷◌, ◌++◌, length, take, refl, sym, ap, subst, arith, append_assoc, append-nil}
use Rattle.std.proofs.Math.Logic.{∥∥₁_map}
use Rattle.wf_codec.specs.Message.{view}
use Rattle.wf_codec.specs.declared.message.Message as code
use Rattle.wf_def.specs.Definition.{Definition}
use Rattle.wf_learner.specs.History.{next_of}
use Rattle.wf_model.specs.Message.{Chosen, Message}
use Rattle.wf_reader.specs.ReaderAnswer.{ReaderAnswer}
use Rattle.wf_reader.specs.declared.question.Question.{Question}
use Rattle.wf_replica.proofs.Received.{learns_none, messages_more}
use Rattle.wf_replica.proofs.Reported.{learned_append}
use Rattle.wf_replica.specs.Fit.{FitsQuestion}
use Rattle.wf_replica.specs.Heard.{CameByAnswers, IsTakenFrom, IsAnswerTaken}
use Rattle.wf_replica.specs.LearnedList.{learned, messages_of, numbered}
use Rattle.wf_replica.specs.MapList.{IsReadFromTape, Learns, LearnsFitting, heard_by, maps_of}
use Rattle.wf_replica.specs.declared.maps.MapList.{MapList}

-- ---- of a tape

numbered_push : (s : ℕ) (list : List Definition) (d : Definition) → numbered s (list ++ d ∷ []) ≡ numbered s list ++ Chosen (s + length list) d ∷ []
unfolding numbered
numbered_push s [] d =
    let here : s ≡ s + 0 = omega arith in
    ap (λ (n : ℕ). Chosen n d ∷ []) here
numbered_push s (e ∷ list) d =
    let later : suc s + length list ≡ s + length (e ∷ list) = omega arith in
    ap (λ (l : List (Message Definition)). Chosen s e ∷ l) (numbered_push (suc s) list d ∙ ap (λ (n : ℕ). numbered (suc s) list ++ Chosen n d ∷ []) later)

pub nothing_read : (read : List (code.Message × ℕ)) (maps : MapList) → read ≡ [] → heard_by maps ≡ [] → maps_of maps ≡ [] → IsReadFromTape (messages_of read) maps
unfolding numbered
nothing_read read maps none unheard empty = record {
  same = unheard ∙ sym (ap messages_of none);
  are_maps = ap messages_of none ∙ sym (ap (numbered 1) empty);
}

pub one_read : (read read' : List (code.Message × ℕ)) (m : code.Message) (s n : ℕ) (d : Definition) (old new : MapList) → read' ≡ read ++ (m, 0) ∷ [] → view m ≡ Chosen s d →
    n ≡ length (maps_of old) → s ≡ n + 1 → heard_by new ≡ heard_by old ++ view m ∷ [] → maps_of new ≡ maps_of old ++ d ∷ [] → IsReadFromTape (messages_of read) old → IsReadFromTape (messages_of read') new
one_read read read' m s n d old new log says size next heard list is =
    let now : messages_of read' ≡ messages_of read ++ view m ∷ [] = ap messages_of log ∙ messages_more read m 0 in
    let place : s ≡ 1 + length (maps_of old) = omega (arith, next, size) in
    record {
      same = heard ∙ ap (λ (l : List (Message Definition)). l ++ view m ∷ []) is.same ∙ sym now;
      are_maps = now ∙ ap (λ (l : List (Message Definition)). l ++ view m ∷ []) is.are_maps ∙ ap (λ (c : Message Definition). numbered 1 (maps_of old) ++ c ∷ []) (says ∙ ap (λ (k : ℕ). Chosen k d) place)
          ∙ sym (numbered_push 1 (maps_of old) d) ∙ sym (ap (numbered 1) list);
    }

-- nothing but what was read was heard, and no answer was given
pub heard_read : (read received : List (Message Definition)) (answers : List (ReaderAnswer × Question)) → received ≡ read → answers ≡ [] → ∥ CameByAnswers read answers received ∥₁
unfolding IsTakenFrom
heard_read read received answers same none = ∣ record {
  rest = [];
  is_rest = same ∙ sym (append-nil read);
  by_answers = subst (λ (l : List (ReaderAnswer × Question)). IsTakenFrom (learned [] read) l []) (sym none) refl;
} ∣₁

pub heard_same : (read received received' : List (Message Definition)) (answers : List (ReaderAnswer × Question)) → received' ≡ received → ∥ CameByAnswers read answers received ∥₁ → ∥ CameByAnswers read answers received' ∥₁
heard_same read received received' answers same heard = subst (λ (l : List (Message Definition)). ∥ CameByAnswers read answers l ∥₁) (sym same) heard

-- ---- by an answer

pub learned_nothing : (q : Question) (a : ReaderAnswer) (maps : MapList) → LearnsFitting q a maps maps
learned_nothing q a maps = record { count = 0; fits = λ some. absurd (omega (arith, some)); learns = learns_none maps maps a.definitions refl refl }

pub learned_fitting : (q : Question) (a : ReaderAnswer) (definitions : List Definition) (old new : MapList) → definitions ≡ a.definitions → FitsQuestion (maps_of old) q a →
    (k : ℕ) × Learns k old new definitions → LearnsFitting q a old new
learned_fitting q a definitions old new same fits learns = record {
  count = learns.0;
  fits = λ some. fits;
  learns = subst (λ (ds : List Definition). Learns learns.0 old new ds) same learns.1;
}

pub part_of : (q : Question) (a : ReaderAnswer) (old new : MapList) → LearnsFitting q a old new → (part : List (Message Definition)) × IsAnswerTaken (maps_of old) q a part × (heard_by new ≡ heard_by old ++ part)
part_of q a old new learns = (
  numbered (next_of (maps_of old)) (take learns.count a.definitions),
  record { count = learns.count; within = learns.learns.within; fits = learns.fits; is_part = refl },
  learns.learns.received,
)

from_more : (list : List Definition) (answers : List (ReaderAnswer × Question)) (received : List (Message Definition)) (answer : ReaderAnswer × Question) (part : List (Message Definition)) →
    IsTakenFrom list answers received → IsAnswerTaken (learned list received) answer.1 answer.0 part → IsTakenFrom list (answers ++ answer ∷ []) (received ++ part)
unfolding IsTakenFrom learned
from_more list [] received answer part none taken =
    let at : IsAnswerTaken list answer.1 answer.0 part = subst (λ (r : List (Message Definition)). IsAnswerTaken (learned list r) answer.1 answer.0 part) none taken in
    (part, [], ap (λ (r : List (Message Definition)). r ++ part) none ∙ sym (append-nil part), at, refl)
from_more list (first ∷ answers) received answer part heard taken =
    let now : learned list received ≡ learned (learned list heard.0) heard.1 = ap (learned list) heard.2 ∙ learned_append list heard.0 heard.1 in (
      heard.0,
      heard.1 ++ part,
      ap (λ (r : List (Message Definition)). r ++ part) heard.2 ∙ append_assoc heard.0 heard.1 part,
      heard.3,
      from_more (learned list heard.0) answers heard.1 answer part heard.4 (subst (λ (l : List Definition). IsAnswerTaken l answer.1 answer.0 part) now taken),
    )

-- one more answer was given
pub heard_more : (read : List (Message Definition)) (answers answers' : List (ReaderAnswer × Question)) (q : Question) (a : ReaderAnswer) (old new : MapList) → answers' ≡ answers ++ (a, q) ∷ [] →
    LearnsFitting q a old new → ∥ CameByAnswers read answers (heard_by old) ∥₁ → ∥ CameByAnswers read answers' (heard_by new) ∥₁
heard_more read answers answers' q a old new more learns heard =
    let part = part_of q a old new learns in
    ∥∥₁_map heard (λ is.
    let now : maps_of old ≡ learned (learned [] read) is.rest = sym old.learned ∙ ap (learned []) is.is_rest ∙ learned_append [] read is.rest in
    record {
      rest = is.rest ++ part.0;
      is_rest = part.2 ∙ ap (λ (l : List (Message Definition)). l ++ part.0) is.is_rest ∙ append_assoc read is.rest part.0;
      by_answers = subst (λ (l : List (ReaderAnswer × Question)). IsTakenFrom (learned [] read) l (is.rest ++ part.0)) (sym more)
          (from_more (learned [] read) answers is.rest (a, q) part.0 is.by_answers (subst (λ (l : List Definition). IsAnswerTaken l q a part.0) now part.1));
    })
