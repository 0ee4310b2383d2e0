-- Nodes that published one history have one answer to a query.
use Rattle.std.proofs.Common.{◌≡◌, ◌∙◌, ℕ, zero, suc, List, Some, sym, ap}
use Rattle.wf_delivery.proofs.Common.{same_Some, Definition, definition_at, Node, HaveOneAnswer, HaveOneHistory, HaveOneMapAnswer}
use Rattle.wf_wms.specs.History.{map_at}
use Rattle.wf_wms.proofs.ServiceTheorem.{answered_alike}
use Rattle.wf_wms.specs.Answer.{AnswerValue, EachQueryHasOneAnswer, IsAnswerOf, subject}

-- ---- two lists

-- the maps that two lists have at a sequence are equal, if their entries are
one_map_of : (history other : List Definition) → ((s : ℕ) (c d : Definition) → definition_at history s ≡ Some c → definition_at other s ≡ Some d → c ≡ d) → (k : ℕ) (map another : Definition) →
    map_at history k ≡ Some map → map_at other k ≡ Some another → map ≡ another
unfolding map_at
one_map_of history other agree zero map another here there = same_Some map another (sym here ∙ there)
one_map_of history other agree (suc k) map another here there = agree (suc k) map another here there

-- the map that an answer is about is published
its_map : (s : ℕ) (history : List Definition) (query : List ℕ) (answer : AnswerValue) → IsAnswerOf s history query answer →
    (map : Definition) × (map_at history (subject s query) ≡ Some map)
unfolding IsAnswerOf subject
its_map s history query answer is = (is.map, is.is_published)

-- one answer at the sequence s, of two lists with equal entries
pub one_of : EachQueryHasOneAnswer → (history other : List Definition) → ((s : ℕ) (c d : Definition) → definition_at history s ≡ Some c → definition_at other s ≡ Some d → c ≡ d) →
    (s : ℕ) (query : List ℕ) (answer another : AnswerValue) → IsAnswerOf s history query answer → IsAnswerOf s other query another → another ≡ answer
one_of theorem history other agree s query answer another is is_other =
    let here = its_map s history query answer is in
    let there = its_map s other query another is_other in
    let same : here.0 ≡ there.0 = one_map_of history other agree (subject s query) here.0 there.0 here.1 there.1 in
    theorem s history other query answer another (here.1 ∙ ap (λ m. Some m) same ∙ sym there.1) is is_other

-- ---- nodes that a caller holds

module _ {T : Type 0} (theorem : EachQueryHasOneAnswer) (nodes : List (Node T)) (one : HaveOneHistory nodes) where
  pub alike_answers : HaveOneAnswer nodes
  unfolding HaveOneHistory HaveOneAnswer
  alike_answers = λ i j s node other query answer another at there long also is is_other.
      one_of theorem node.parts.history other.parts.history (λ k c d here beyond. one i j k node other c d at there here beyond) s query answer another is is_other

  pub alike_map_answers : HaveOneMapAnswer nodes
  unfolding HaveOneHistory HaveOneMapAnswer
  alike_map_answers = λ i j s t m node other query answer another at there asks also long longer is is_other.
      one_of theorem node.parts.history other.parts.history (λ k c d here beyond. one i j k node other c d at there here beyond) s query answer another is
      (answered_alike s t m other.parts.history query another asks also is_other)
