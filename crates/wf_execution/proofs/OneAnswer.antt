-- Lists of which one history begins have one answer to a query.
use Rattle.std.proofs.Common.{◌≡◌, ℕ, zero, suc, List, Some, sym, ap, ◌∙◌}
use Rattle.std.proofs.lemmas.Option.{same_Some}
use Rattle.wf_def.specs.Definition.{Definition}
use Rattle.wf_safety.specs.Theorems.{IsBeginning}
use Rattle.wf_learner.specs.History.{map_at}
use Rattle.wf_tape.specs.declared.tape.Tape.{Ghosts as Tape}
use Rattle.wf_wms.specs.Answer.{AnswerValue, AskedMapsAreAnsweredAlike, AsksForMap, EachQueryHasOneAnswer, IsAnswerOf, subject}
use Rattle.wf_execution.specs.Theorems.{OneHistory, OneAnswer, OneMapAnswer}
use Rattle.wf_execution.proofs.Lists.{one_definition}

module _ (history xs ys : List Definition) (first : IsBeginning xs history) (second : IsBeginning ys history) where
  one_map : (k : ℕ) (c d : Definition) → map_at xs k ≡ Some c → map_at ys k ≡ Some d → c ≡ d
  unfolding map_at
  one_map zero c d at there = same_Some c d (sym at ∙ there)
  one_map (suc k) c d at there = one_definition history xs ys first second (suc k) c d at there

  module _ (theorem : EachQueryHasOneAnswer) (s : ℕ) (query : List ℕ) (answer another : AnswerValue) where
    its_map : (list : List Definition) (a : AnswerValue) → IsAnswerOf s list query a → (map : Definition) × (map_at list (subject s query) ≡ Some map)
    unfolding IsAnswerOf subject
    its_map list a is = (is.map, is.is_published)

    pub one_answer : IsAnswerOf s xs query answer → IsAnswerOf s ys query another → another ≡ answer
    one_answer is is_other =
        let here = its_map xs answer is in
        let there = its_map ys another is_other in
        let same : here.0 ≡ there.0 = one_map (subject s query) here.0 there.0 here.1 there.1 in
        theorem s xs ys query answer another (here.1 ∙ ap (λ m. Some m) same ∙ sym there.1) is is_other

  -- at different sequences, for one map
  pub one_map_answer : EachQueryHasOneAnswer → AskedMapsAreAnsweredAlike → (s t m : ℕ) (query : List ℕ) (answer another : AnswerValue) → AsksForMap m s query → AsksForMap m t query →
      IsAnswerOf s xs query answer → IsAnswerOf t ys query another → another ≡ answer
  one_map_answer theorem elsewhere s t m query answer another asks also is is_other =
      one_answer theorem s query answer another is (elsewhere s t m ys query another asks also is_other)

pub farm_has_one_answer : EachQueryHasOneAnswer → {T : Type 0} (tapes : Tape T) → OneHistory tapes → OneAnswer tapes
farm_has_one_answer theorem tapes histories = λ n executions items farm node other held also s query answer another long longer is is_other.
    let so = histories n executions items farm in
    one_answer so.history node.parts.history other.parts.history (so.each node held) (so.each other also) theorem s query answer another is is_other

pub farm_has_one_map_answer : EachQueryHasOneAnswer → AskedMapsAreAnsweredAlike → {T : Type 0} (tapes : Tape T) → OneHistory tapes → OneMapAnswer tapes
farm_has_one_map_answer theorem elsewhere tapes histories = λ n executions items farm node other held also s t m query answer another asks asks_too long longer is is_other.
    let so = histories n executions items farm in
    one_map_answer so.history node.parts.history other.parts.history (so.each node held) (so.each other also) theorem elsewhere s t m query answer another asks asks_too is is_other
