-- When the answers of two nodes are found equal.
use Rattle.std.proofs.Common.{◌≡◌, ◌&&◌, ℕ, Bool, true, List, refl, sym, ap, subst, ◌∙◌, bytes_eq}
use Rattle.std.proofs.lemmas.Slice.Eq.{bytes_eq-Decides}
use Rattle.wf_wms.specs.Answer.{AnswerValue}
use Rattle.wf_wms.specs.declared.response.Kind.{Kind}
use Rattle.wf_wms.specs.contracts.response.KindEq.TheImpl.Laws.{laws-law}
use Rattle.wf_farm.specs.ClientAnswers.{NodeAnswers, HasOneAnswer, HasOneMapAnswer, sequence_at}
use Rattle.wf_farm.specs.Farm.{MemoryFarm}
use Rattle.wf_play.specs.Comparison.{Compares, IsTrueWhereOne, is_same_answer, is_same_kind}

both_true : (x y : Bool) → x ≡ true → y ≡ true → (x && y) ≡ true
both_true x y first second = ap (λ t. t && y) first ∙ second

-- what is compared with itself is the same
same_kind : (k : Kind) → is_same_kind k k ≡ true
unfolding is_same_kind
same_kind k = laws-law.refl k

same_bytes : (bytes : List ℕ) → bytes_eq bytes bytes ≡ true
same_bytes bytes = (bytes_eq-Decides bytes bytes).1 refl

same_answer : (a : AnswerValue) → is_same_answer a a ≡ true
unfolding is_same_answer
same_answer a =
    both_true (is_same_kind a.kind a.kind && bytes_eq a.media a.media) (bytes_eq a.bytes a.bytes)
    (both_true (is_same_kind a.kind a.kind) (bytes_eq a.media a.media) (same_kind a.kind) (same_bytes a.media))
    (same_bytes a.bytes)

-- so one answer is found equal
found_equal : (a b : AnswerValue) (test : Bool) → test ≡ is_same_answer a b → b ≡ a → test ≡ true
found_equal a b test is same = is ∙ ap (λ (x : AnswerValue). is_same_answer a x) same ∙ same_answer a

-- what is compared is what the two nodes answer
pub compared : (farm : MemoryFarm) (i j : ℕ) (query : List ℕ) (a b : AnswerValue) (test : Bool) → NodeAnswers farm i (sequence_at farm i) query a → NodeAnswers farm j (sequence_at farm j) query b →
    test ≡ is_same_answer a b → Compares farm i j query test
compared farm i j query a b test first second is = record { answer = a; another = b; first = first; second = second; test = is }

-- By the theorem there is one answer, where the nodes are at one sequence, and where they are asked
-- for one map.
pub true_where_one : (farm : MemoryFarm) (i j : ℕ) (query : List ℕ) (a b : AnswerValue) (test : Bool) → HasOneAnswer farm → HasOneMapAnswer farm →
    NodeAnswers farm i (sequence_at farm i) query a → NodeAnswers farm j (sequence_at farm j) query b → test ≡ is_same_answer a b → IsTrueWhereOne farm i j query test
unfolding HasOneAnswer HasOneMapAnswer
true_where_one farm i j query a b test sequence_theorem map_theorem first second is = record {
  one_sequence = λ same. found_equal a b test is (sequence_theorem i j (sequence_at farm i) query a b first (subst (λ s. NodeAnswers farm j s query b) (sym same) second));
  one_map = λ m here there. found_equal a b test is (map_theorem i j (sequence_at farm i) (sequence_at farm j) m query a b here there first second);
}
