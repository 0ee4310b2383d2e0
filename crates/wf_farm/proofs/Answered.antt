-- Nodes with the same last published sequence have one answer to a query.
use Rattle.std.proofs.Common.{◌≡◌, ◌∙◌, ℕ, List, length, slice_get, Option, Some, None, refl, sym, ap, subst}
use Rattle.wf_farm.proofs.Common.{none-some, same_Some, Definition, definition_at, Node, stored_of, TapeValue, Memory, NoNode, Running, Stopped, HasNoTwoDefinitions, HasDurableState, MemoryFarm, running_in, MemoryHost}
use Rattle.wf_delivery.proofs.Alike.{one_of}
use Rattle.wf_wms.proofs.ServiceTheorem.{answered_alike}
use Rattle.wf_wms.specs.Answer.{AnswerValue, EachQueryHasOneAnswer, IsAnswerOf}
use Rattle.wf_farm.specs.ClientAnswers.{NodeAnswers, HasOneAnswer, HasOneMapAnswer, IsNoAnswer, sequence_at, sequence_in}

-- ---- an answer and an error

-- The running node answered, from as many definitions as its list has.
pub answered : (farm : MemoryFarm) (i s : ℕ) (node : Node TapeValue) (history : List Definition) (query : List ℕ) (answer : AnswerValue) → Some node ≡ running_in (slice_get farm.hosts i) →
    history ≡ node.parts.history → s ≡ length history → IsAnswerOf s history query answer → NodeAnswers farm i (sequence_at farm i) query answer
answered farm i s node history query answer runs same long is =
    let stands : s ≡ length node.parts.history = long ∙ ap (λ (h : List Definition). length h) same in
    subst (λ t. NodeAnswers farm i t query answer) (stands ∙ ap sequence_in runs)
    (record { node = node; runs = sym runs; stands = sym stands; is_answer = subst (λ h. IsAnswerOf s h query answer) same is })

pub none_runs : (there : Option (Node TapeValue)) → None ≡ there → IsNoAnswer there NoNode
none_runs there none = subst (λ t. IsNoAnswer t NoNode) none refl

pub memory_wanted : (there : Option (Node TapeValue)) (node : Node TapeValue) → Some node ≡ there → IsNoAnswer there (Memory 0)
memory_wanted there node runs = subst (λ t. IsNoAnswer t (Memory 0)) runs refl

-- ---- one answer

-- the durable state of a running node is the one it shows
running_stored : (there : Option MemoryHost) (node : Node TapeValue) → running_in there ≡ Some node → HasDurableState there (stored_of node)
running_stored None node runs = absurd (none-some node runs)
running_stored (Some (Running held)) node runs = ap (λ (x : Node TapeValue). stored_of x) (sym (same_Some held node runs))
running_stored (Some (Stopped tape)) node runs = absurd (none-some node runs)

-- what two nodes published under one sequence is one definition
one_entry : (farm : MemoryFarm) (i j k : ℕ) (node other : Node TapeValue) (map another : Definition) → HasNoTwoDefinitions farm →
    running_in (slice_get farm.hosts i) ≡ Some node → running_in (slice_get farm.hosts j) ≡ Some other →
    definition_at node.parts.history k ≡ Some map → definition_at other.parts.history k ≡ Some another → map ≡ another
unfolding HasNoTwoDefinitions
one_entry farm i j k node other map another one runs also here there =
    one i j k map another
    (record { stored = stored_of node; has = running_stored (slice_get farm.hosts i) node runs; entry = here })
    (record { stored = stored_of other; has = running_stored (slice_get farm.hosts j) other also; entry = there })

-- one answer at the sequence s, of two nodes' lists
one_at : EachQueryHasOneAnswer → (farm : MemoryFarm) → HasNoTwoDefinitions farm → (i j s : ℕ) (node other : Node TapeValue) (query : List ℕ) (answer another : AnswerValue) →
    running_in (slice_get farm.hosts i) ≡ Some node → running_in (slice_get farm.hosts j) ≡ Some other →
    IsAnswerOf s node.parts.history query answer → IsAnswerOf s other.parts.history query another → another ≡ answer
one_at theorem farm one i j s node other query answer another runs also is is_other =
    one_of theorem node.parts.history other.parts.history (λ k map more here there. one_entry farm i j k node other map more one runs also here there) s query answer another is is_other

pub one_answer : EachQueryHasOneAnswer → (farm : MemoryFarm) → HasNoTwoDefinitions farm → HasOneAnswer farm
unfolding HasOneAnswer
one_answer theorem farm one = λ i j s query answer another first second.
    one_at theorem farm one i j s first.node second.node query answer another first.runs second.runs first.is_answer second.is_answer

-- ---- one map that is asked for

pub one_map_answer : EachQueryHasOneAnswer → (farm : MemoryFarm) → HasNoTwoDefinitions farm → HasOneMapAnswer farm
unfolding HasOneMapAnswer
one_map_answer theorem farm one = λ i j s t m query answer another asks also first second.
    one_at theorem farm one i j s first.node second.node query answer another first.runs second.runs first.is_answer
    (answered_alike s t m second.node.parts.history query another asks also second.is_answer)
