-- The example's replacement is allowed: processes 0 and 1 had stored nothing when process 2 was
-- lost.
use Rattle.std.proofs.Common.{◌≡◌, ◌≢◌, ◌⊎◌, ℕ, zero, suc, ◌+◌, ◌*◌, ◌<◌, ◌≤◌, Bool, true, false, List, [], ◌∷◌, ◌++◌, length, take, slice_get, Some, refl, sym, ap, subst, ◌∙◌, inl, inr, arith, lit<}
use Rattle.std.proofs.lemmas.Bool.{both_ways}
use Rattle.std.proofs.lemmas.List.{take-append-le}
use Rattle.std.proofs.lemmas.Option.{none-some, same_Some}
use Rattle.wf_ballot.specs.Majority.{count_nodes}
use Rattle.wf_execution.specs.Run.{last_of, IsOpenedFrom}
use Rattle.wf_journal.specs.Records.{IsReadAsNone, ReadsAs}
use Rattle.wf_model.specs.DurableState.{DurableState, nothing_stored, published}
use Rattle.wf_model.specs.VolatileState.{window}
use Rattle.wf_def.specs.Definition.{Definition}
use Rattle.wf_node.specs.Node.{Node, stored_of}
use Rattle.wf_safety.specs.Replacement.{IsUpTo, HasWindowAfter, published_from}
use Rattle.wf_safety.specs.Theorems.{IsBeginning}
use Rattle.wf_tape.specs.declared.tape.Tape.{Ghosts as Tape}
use Rattle.wf_replacement.specs.Examples.{started, EndsReplaced, LostIsReplaced}
use Rattle.wf_replacement.specs.Rejoining.{IsSilent, WasAsked, MayRejoin, HoldsExactly, CopiesAreHeld}
use Rattle.wf_replacement.specs.Theorems.{IsWithoutLoss}
use Rattle.wf_replacement.specs.Timeline.{ProcessEvent, Opens, Loses, Rejoins, process_of, returned_through, Lost, node_in, IsPossible, states_with, states_from, unstarted_process, IsTimeline, state_at, node_at}
use Rattle.wf_replacement.proofs.Agreement.{nothing_alone}
use Rattle.wf_replacement.proofs.Continuation.{timeline_goes_on}
use Rattle.wf_replacement.proofs.Farms.{none_rejoins}
use Rattle.wf_replacement.proofs.Others.{stays}
use Rattle.wf_replacement.proofs.Prefixes.{begins_itself}

-- ---- lists with one more element

last_or_earlier : {A : Type 0} (xs : List A) (last x : A) (k : ℕ) → slice_get (xs ++ last ∷ []) k ≡ Some x → (slice_get xs k ≡ Some x) ⊎ ((k ≡ length xs) × (last ≡ x))
last_or_earlier [] last x zero at = inr (refl, same_Some last x at)
last_or_earlier [] last x (suc k) at = absurd (none-some x at)
last_or_earlier (y ∷ xs) last x zero at = inl at
last_or_earlier (y ∷ xs) last x (suc k) at = elim (last_or_earlier xs last x k at) [
  | inl earlier ↦ inl earlier
  | inr here ↦ inr (ap suc here.0, here.1)
]

-- ---- who is asked

two_asked : ℕ → Bool
two_asked zero = true
two_asked (suc zero) = true
two_asked (suc (suc j)) = false

half_asked : 3 ≤ 2 * count_nodes 3 two_asked
unfolding count_nodes two_asked
half_asked = let counted : count_nodes 3 two_asked ≡ 2 = refl in omega (arith, counted)

nothing_up_to : IsUpTo {V = Definition} nothing_stored 0
unfolding nothing_stored published
nothing_up_to = record { published_to = omega arith; voted_to = λ s less. refl }

opened_up_to : {T : Type 0} (i : ℕ) (node : Node T) → IsReadAsNone → IsOpenedFrom 3 i [] node → IsUpTo (stored_of node) 0
opened_up_to i node none opened = subst (λ (s : DurableState Definition). IsUpTo s 0) (sym (nothing_alone none (stored_of node) opened.stored)) nothing_up_to

opens_differ : {T : Type 0} (p i : ℕ) (node : Node T) (bytes : List ℕ) → Opens p node ≡ Rejoins i bytes → ⊥
opens_differ p i node bytes e = absurd cc

loses_differ : {T : Type 0} (p i : ℕ) (bytes : List ℕ) (event : ProcessEvent T) → event ≡ Loses p → event ≡ Rejoins i bytes → ⊥
loses_differ p i bytes event is also = absurd cc

same_process : {T : Type 0} (i j : ℕ) (bytes other : List ℕ) (event : ProcessEvent T) → event ≡ Rejoins i bytes → event ≡ Rejoins j other → i ≡ j
same_process i j bytes other event is also = cc

same_bytes : {T : Type 0} (i j : ℕ) (bytes other : List ℕ) (event : ProcessEvent T) → event ≡ Rejoins i bytes → event ≡ Rejoins j other → bytes ≡ other
same_bytes i j bytes other event is also = cc

-- ---- the example

module _ {T : Type 0} (none : IsReadAsNone) (copies : CopiesAreHeld) (tapes : Tape T) (first second third : Node T) (more : List (ProcessEvent T)) (i : ℕ) (node : Node T) (bytes : List ℕ)
    (timeline : IsTimeline tapes 3 (started first second third ++ more)) (plain : IsWithoutLoss more) (others : (k : ℕ) (event : ProcessEvent T) → slice_get more k ≡ Some event → process_of event ≢ 2)
    (is_member : i < 3) (at : node_at (started first second third ++ more) (4 + length more) i ≡ Some node) (enough : window ≤ length node.parts.history)
    (reads : ReadsAs bytes (published_from 1 node.parts.history)) where
  abbrev events : List (ProcessEvent T)
  events = started first second third ++ more

  abbrev now : ℕ
  now = 4 + length more

  abbrev all : List (ProcessEvent T)
  all = events ++ Rejoins 2 bytes ∷ []

  long : length events ≡ now
  long = omega arith

  others_after : (q : ℕ) (event : ProcessEvent T) → 4 ≤ q → slice_get events q ≡ Some event → process_of event ≢ 2
  others_after zero event from there = absurd (omega (arith, from))
  others_after (suc zero) event from there = absurd (omega (arith, from))
  others_after (suc (suc zero)) event from there = absurd (omega (arith, from))
  others_after (suc (suc (suc zero))) event from there = absurd (omega (arith, from))
  others_after (suc (suc (suc (suc q)))) event from there = others q event there

  no_rejoins : (q j : ℕ) (other : List ℕ) → slice_get events q ≡ Some (Rejoins j other) → ⊥
  no_rejoins zero j other there = opens_differ 0 j first other (same_Some (Opens 0 first) (Rejoins j other) there)
  no_rejoins (suc zero) j other there = opens_differ 1 j second other (same_Some (Opens 1 second) (Rejoins j other) there)
  no_rejoins (suc (suc zero)) j other there = opens_differ 2 j third other (same_Some (Opens 2 third) (Rejoins j other) there)
  no_rejoins (suc (suc (suc zero))) j other there = loses_differ 2 j other (Loses 2) refl (same_Some (Loses 2) (Rejoins j other) there)
  no_rejoins (suc (suc (suc (suc q)))) j other there = none_rejoins more q j other plain there

  silent : IsSilent events 4 now 2
  silent = λ q event from to there. others_after q event from there

  silent_all : IsSilent all 4 now 2
  silent_all = λ q event from to there. elim (last_or_earlier events (Rejoins 2 bytes) event q there) [
    | inl earlier ↦ others_after q event from earlier
    | inr last ↦ let end : q ≡ length events = last.0 in absurd (omega (arith, end, to, long))
  ]

  -- the replacement comes after all moments up to now
  moment : (m j : ℕ) → m ≤ now → node_at all m j ≡ node_at events m j
  moment m j less = ap (λ (es : List (ProcessEvent T)). node_in (states_from unstarted_process es j)) (take-append-le m events (Rejoins 2 bytes ∷ []) (omega (arith, less, long)))

  lost_then : state_at events 4 2 ≡ Lost
  unfolding states_from states_with
  lost_then = refl

  lost_now : state_at events (length events) 2 ≡ Lost
  lost_now = ap (λ m. state_at events m 2) long ∙ stays events 4 now 2 silent now 4 (omega arith) (omega arith) (omega arith) ∙ lost_then

  held : HoldsExactly bytes node.parts.history
  held = copies bytes node.parts.history reads

  replaced : IsTimeline tapes 3 all
  replaced = timeline_goes_on tapes 3 events (Rejoins 2 bytes) timeline (lit< tt) (subst (λ s. IsPossible tapes 3 (returned_through events) s (Rejoins 2 bytes)) (sym lost_now) held.holds)

  opened_first : IsOpenedFrom 3 0 [] first
  opened_first = timeline.1

  opened_second : IsOpenedFrom 3 1 [] second
  unfolding states_with
  opened_second = timeline.2.1

  asked_then : (j : ℕ) → j < 3 → two_asked j ≡ true → WasAsked all 4 now 0 j
  unfolding two_asked states_from states_with last_of
  asked_then zero less is = record {
    moment = 4;
    after = omega arith;
    before = omega arith;
    node = first;
    at = moment 4 0 (omega arith);
    runs = opened_first.runs;
    up_to = opened_up_to 0 first none opened_first;
  }
  asked_then (suc zero) less is = record {
    moment = 4;
    after = omega arith;
    before = omega arith;
    node = second;
    at = moment 4 1 (omega arith);
    runs = opened_second.runs;
    up_to = opened_up_to 1 second none opened_second;
  }
  asked_then (suc (suc j)) less is = absurd (both_ways false refl is)

  far : HasWindowAfter 0 held.holds.stored
  unfolding published
  far = let same : length held.holds.stored.history ≡ length node.parts.history = ap (λ xs. length xs) held.history in inl (omega (arith, same, enough))

  may_rejoin : MayRejoin 3 all now 2 bytes
  may_rejoin = record {
    since = 4;
    earlier = omega arith;
    silent = silent_all;
    m = 0;
    asked = two_asked;
    half = half_asked;
    each = asked_then;
    holds = held.holds;
    far = far;
    known = now;
    by_then = omega arith;
    source = i;
    is_member = is_member;
    node = node;
    at = moment now i (omega arith) ∙ at;
    copied = subst (λ xs. IsBeginning xs node.parts.history) (sym held.history) (begins_itself node.parts.history);
  }

  each_may : (k j : ℕ) (other : List ℕ) → slice_get all k ≡ Some (Rejoins j other) → MayRejoin 3 all k j other
  each_may k j other there = elim (last_or_earlier events (Rejoins 2 bytes) (Rejoins j other) k there) [
    | inl earlier ↦ absurd (no_rejoins k j other earlier)
    | inr last ↦
        subst (λ m. MayRejoin 3 all m j other) (sym (last.0 ∙ long))
        (subst (λ p. MayRejoin 3 all now p other) (same_process 2 j bytes other (Rejoins 2 bytes) refl last.1) (subst (MayRejoin 3 all now 2) (same_bytes 2 j bytes other (Rejoins 2 bytes) refl last.1) may_rejoin))
  ]

  ends_replaced : EndsReplaced tapes events bytes
  ends_replaced = record { timeline = replaced; may_rejoin = each_may }

pub lost_is_replaced : {T : Type 0} → IsReadAsNone → CopiesAreHeld → (tapes : Tape T) → LostIsReplaced tapes
lost_is_replaced none copies tapes = λ first second third more i node bytes timeline plain others is_member at enough reads.
    ends_replaced none copies tapes first second third more i node bytes timeline plain others is_member at enough reads
