-- Published definitions by their sequence, and the Chosen messages for them.
use Rattle.std.proofs.Common.{◌≡◌, ℕ, zero, suc, ◌+◌, ◌-◌, ◌<◌, ◌≤◌, List, [], ◌∷◌, ◌++◌, length, slice_get, Some, None, map, arith, add-one, append_assoc, append-nil, refl, sym, ◌∙◌, ap, inl, inr, lt_of_not-le}
use Rattle.std.proofs.lemmas.Bool.{cases_lt}
use Rattle.std.proofs.lemmas.List.{map-append}
use Rattle.std.proofs.lemmas.Option.{slice_get_past, slice_get_within}
use Rattle.wf_ballot.specs.Sequence.{last_sequence, IsSlot}
use Rattle.wf_def.specs.Definition.{Definition}
use Rattle.wf_model.specs.Message.{Message, Chosen}
use Rattle.wf_model.specs.DurableState.{definition_at}
use Rattle.wf_model.specs.Table.{most_reports, reports, reports_of, reports_from}
use Rattle.wf_codec.specs.Message.{view as view_message}
use Rattle.wf_codec.specs.declared.message.Message as code
use Rattle.wf_learner.specs.History.{map_at}

-- the definition of sequence s has index s - 1 in the list
pub definition_before : (definitions : List Definition) (s : ℕ) → 1 ≤ s → definition_at definitions s ≡ slice_get definitions (s - 1)
unfolding definition_at
definition_before definitions zero from_one = absurd (omega arith)
definition_before definitions (suc k) from_one = let before : suc k - 1 ≡ k = omega arith in rw before

-- from sequence 1 on the map is the published definition
pub map_published : (definitions : List Definition) (s : ℕ) → 1 ≤ s → map_at definitions s ≡ definition_at definitions s
unfolding map_at
map_published definitions zero from_one = absurd (omega arith)
map_published definitions (suc k) from_one = refl

-- A sequence with a definition is published, and later ones have none.
pub is_published : (definitions : List Definition) (s : ℕ) (d : Definition) → definition_at definitions s ≡ Some d → s ≤ length definitions
unfolding definition_at
is_published definitions zero d is = omega arith
is_published definitions (suc k) d is = let within : k < length definitions = slice_get_within definitions k d is in omega arith

pub none_past : (definitions : List Definition) (s : ℕ) → length definitions < s → definition_at definitions s ≡ None
unfolding definition_at
none_past definitions zero past = refl
none_past definitions (suc k) past = slice_get_past definitions k (omega arith)

-- A published definition is sent as one Chosen; for others nothing is sent.
pub reported_published : (definitions : List Definition) (s : ℕ) (d : Definition) → definition_at definitions s ≡ Some d → reports definitions s ≡ Chosen s d ∷ []
unfolding reports reports_of
reported_published definitions s d is = rw is

pub reported_unpublished : (definitions : List Definition) (s : ℕ) → definition_at definitions s ≡ None → reports definitions s ≡ []
unfolding reports reports_of
reported_unpublished definitions s is = rw is

-- What is sent is published.
pub published_where_reported : (definitions : List Definition) (s : ℕ) (m : Message Definition) → m ∷ [] ≡ reports definitions s → s ≤ length definitions
published_where_reported definitions s m is =
    elim (cases_lt (length definitions) s) [
      | inl past ↦ let nothing : reports definitions s ≡ [] = reported_unpublished definitions s (none_past definitions s past) in cc
      | inr within ↦ within
    ]

-- Nothing is sent for a number that isn't a slot's.
pub reported_of_no_slot : (definitions : List Definition) (s : ℕ) → length definitions ≤ last_sequence → (IsSlot s → ⊥) → reports definitions s ≡ []
unfolding reports reports_of definition_at
reported_of_no_slot definitions zero short no_slot = refl
reported_of_no_slot definitions (suc k) short no_slot =
    let past : last_sequence < suc k = lt_of_not-le (λ small. no_slot (record { from_one = omega arith; to_last = small })) in
    reported_unpublished definitions (suc k) (none_past definitions (suc k) (omega arith))

-- One more message is the one of the next sequence.
pub one_more : (definitions : List Definition) (s : ℕ) (before after : List code.Message) (m : code.Message) →
    after ≡ before ++ m ∷ [] → view_message m ∷ [] ≡ reports definitions s → map view_message after ≡ map view_message before ++ reports definitions s
one_more definitions s before after m is states =
    ap (map view_message) is ∙ (map-append view_message before (m ∷ []) ∙ ap (λ (reported_here : List (Message Definition)). map view_message before ++ reported_here) states)

pub none_more : (definitions : List Definition) (s : ℕ) (messages : List code.Message) → reports definitions s ≡ [] →
    map view_message messages ≡ map view_message messages ++ reports definitions s
none_more definitions s messages nothing = rw nothing (sym (append-nil (map view_message messages)))

-- ---- an Ask, sequence by sequence: the messages so far, and those still to come

pub none_reported : (definitions : List Definition) (messages : List code.Message) (number s left : ℕ) → messages ≡ [] → number ≡ s → number + left ≡ s + most_reports →
    map view_message messages ++ reports_from definitions number left ≡ reports_from definitions s most_reports
none_reported definitions messages number s left nothing is sum =
    let all_left : left ≡ most_reports = omega arith in rw (nothing, is, all_left)

pub next_reported : (definitions : List Definition) (before after : List code.Message) (s left : ℕ) (whole : List (Message Definition)) →
    map view_message after ≡ map view_message before ++ reports definitions s →
    map view_message before ++ reports_from definitions s (suc left) ≡ whole → map view_message after ++ reports_from definitions (s + 1) left ≡ whole
unfolding reports_from
next_reported definitions before after s left whole more so_far =
    rw (more, add-one) (append_assoc (map view_message before) (reports definitions s) (reports_from definitions (suc s) left) ∙ so_far)

pub all_reported : (definitions : List Definition) (messages : List code.Message) (s : ℕ) (whole : List (Message Definition)) →
    map view_message messages ++ reports_from definitions s 0 ≡ whole → map view_message messages ≡ whole
unfolding reports_from
all_reported definitions messages s whole so_far = sym (append-nil (map view_message messages)) ∙ so_far
