-- What replicas learn.
use Rattle.std.proofs.Common.{◌≡◌, ◌⊎◌, ℕ, zero, suc, ◌≤◌, ◌<◌, List, [], ◌∷◌, ◌++◌, length, take, drop, slice_get, Option, Some, None, refl, sym, ap, subst, ◌∙◌, inl, inr, arith, append-nil, eq-eqb, ne_eqb}
use Rattle.std.specs.Option.{option_to_list}
use Rattle.std.proofs.lemmas.Bool.{cases_eq}
use Rattle.std.proofs.lemmas.List.{length-take-le, take-append-drop}
use Rattle.std.proofs.lemmas.Option.{slice_get_within}
use Rattle.wf_execution.specs.Execution.{Execution}
use Rattle.wf_execution.specs.Replica.{after_learning, IsListOfFarm, Empty, Learned, ServedAgree, ServedAnswer}
use Rattle.wf_def.specs.Definition.{Definition}
use Rattle.wf_safety.specs.Theorems.{IsBeginning}
use Rattle.wf_learner.specs.History.{with_chosen, next_of}
use Rattle.wf_model.specs.Chosen.{IsIn}
use Rattle.wf_model.specs.Message.{Message, Prepare, Promise, Accept, Accepted, Nack, Chosen, Ask}
use Rattle.wf_model.specs.DurableState.{definition_at}
use Rattle.wf_model.specs.Table.{reports_of, reports, reports_from, most_reports}
use Rattle.wf_tape.specs.declared.tape.Tape.{Ghosts as Tape}
use Rattle.wf_replica.specs.Growth.{begins_itself, begins_on}
use Rattle.wf_replica.specs.Theorems.{AnswersReport, AreReported, BeginningsAreServed, LearnedAgree, LearnedAnswer, LearnedAreServed, NeverGoesBack}
use Rattle.wf_replica.specs.LearnedList.{learned, numbered}
use Rattle.wf_wms.specs.CachedPictures.{AllCached, CacheValue}
use Rattle.wf_wms.proofs.CachedPicturesTheorem.{growth_keeps}

nil_take : (k : ℕ) → take {A = Definition} k [] ≡ []
nil_take zero = refl
nil_take (suc k) = refl

-- a list ends before an index, or has an item there
split_at : (p : ℕ) (h : List Definition) → ((drop p h ≡ []) × (slice_get h p ≡ None) × (drop (suc p) h ≡ [])) ⊎ ((x : Definition) × (drop p h ≡ x ∷ drop (suc p) h) × (slice_get h p ≡ Some x))
split_at zero [] = inl (refl, refl, refl)
split_at zero (x ∷ h) = inr (x, refl, refl)
split_at (suc p) [] = inl (refl, refl, refl)
split_at (suc p) (x ∷ h) = split_at p h

-- ---- what an answer says

numbered_reported : (k p : ℕ) (h : List Definition) → numbered (suc p) (take k (drop p h)) ≡ reports_from h (suc p) k
unfolding numbered reports_from reports reports_of definition_at
numbered_reported zero p h = refl
numbered_reported (suc k) p h = elim (split_at p h) [
  | inl none ↦
      let left : numbered (suc p) (take (suc k) (drop p h)) ≡ [] = ap (λ (l : List Definition). numbered (suc p) (take (suc k) l)) none.0 in
      let tail : reports_from h (suc (suc p)) k ≡ [] = sym (numbered_reported k (suc p) h) ∙ ap (λ (l : List Definition). numbered (suc (suc p)) (take k l)) none.2 ∙ ap (numbered (suc (suc p))) (nil_take k) in
      let here : reports_of (suc p) (slice_get h p) ≡ [] = ap (reports_of (suc p)) none.1 in
      left ∙ sym (ap (λ (l : List (Message Definition)). l ++ reports_from h (suc (suc p)) k) here ∙ tail)
  | inr some ↦
      let left : numbered (suc p) (take (suc k) (drop p h)) ≡ Chosen (suc p) some.0 ∷ numbered (suc (suc p)) (take k (drop (suc p) h)) = ap (λ (l : List Definition). numbered (suc p) (take (suc k) l)) some.1 in
      let here : reports_of (suc p) (slice_get h p) ≡ Chosen (suc p) some.0 ∷ [] = ap (reports_of (suc p)) some.2 in
      left ∙ ap (λ (t : List (Message Definition)). Chosen (suc p) some.0 ∷ t) (numbered_reported k (suc p) h) ∙ sym (ap (λ (l : List (Message Definition)). l ++ reports_from h (suc (suc p)) k) here)
]

pub answers_report : AnswersReport
answers_report = λ source published. numbered_reported most_reports published source

-- ---- a list only grows

pub learned_own : (list : List Definition) (s : ℕ) (d : Definition) → s ≡ next_of list → with_chosen list s d ≡ list ++ d ∷ []
learned_own list s d same = rw (eq-eqb s (next_of list) same) refl

learned_other : (list : List Definition) (s : ℕ) (d : Definition) → (s ≡ next_of list → ⊥) → with_chosen list s d ≡ list
learned_other list s d differs = rw (ne_eqb s (next_of list) differs) refl

pub receives_on : (list : List Definition) (m : Message Definition) → IsBeginning list (after_learning list m)
receives_on list (Chosen s d) = elim (cases_eq s (next_of list)) [
  | inl same ↦ (d ∷ [], sym (learned_own list s d same))
  | inr differs ↦ ([], append-nil list ∙ sym (learned_other list s d differs))
]
receives_on list (Prepare s b) = begins_itself list
receives_on list (Promise i s b votes) = begins_itself list
receives_on list (Accept s b d) = begins_itself list
receives_on list (Accepted i s b) = begins_itself list
receives_on list (Nack i s b promise) = begins_itself list
receives_on list (Ask s) = begins_itself list

goes_on : (list : List Definition) (received : List (Message Definition)) → IsBeginning list (learned list received)
unfolding learned
goes_on list [] = begins_itself list
goes_on list (m ∷ received) = begins_on list (after_learning list m) (learned (after_learning list m) received) (receives_on list m) (goes_on (after_learning list m) received)

pub learned_append : (list : List Definition) (received more : List (Message Definition)) → learned list (received ++ more) ≡ learned (learned list received) more
unfolding learned
learned_append list [] more = refl
learned_append list (m ∷ received) more = learned_append (after_learning list m) received more

take_of_take : (k l : ℕ) (xs : List (Message Definition)) → k ≤ l → take k (take l xs) ≡ take k xs
take_of_take zero l xs le = refl
take_of_take (suc k) zero xs le = absurd (omega (arith, le))
take_of_take (suc k) (suc l) [] le = refl
take_of_take (suc k) (suc l) (x ∷ xs) le = ap (λ (t : List (Message Definition)). x ∷ t) (take_of_take k l xs (omega (arith, le)))

pub never_goes_back : NeverGoesBack
never_goes_back = λ received k l le.
    let rest = drop k (take l received) in
    let whole : take l received ≡ take k received ++ rest = sym (take-append-drop k (take l received)) ∙ ap (λ (f : List (Message Definition)). f ++ rest) (take_of_take k l received le) in
    subst (λ (now : List Definition). IsBeginning (learned [] (take k received)) now) (sym (ap (learned []) whole ∙ learned_append [] (take k received) rest)) (goes_on (learned [] (take k received)) rest)

-- ---- a list is one that is served

in_take : (k : ℕ) (xs : List (Message Definition)) (m : Message Definition) → IsIn m (take k xs) → IsIn m xs
in_take zero xs m is_in = absurd is_in
in_take (suc k) [] m is_in = absurd is_in
in_take (suc k) (x ∷ xs) m (inl same) = inl same
in_take (suc k) (x ∷ xs) m (inr is_in) = inr (in_take k xs m is_in)

one_more : (k : ℕ) (list : List Definition) → take (suc k) list ≡ take k list ++ option_to_list (slice_get list k)
one_more zero [] = refl
one_more (suc k) [] = refl
one_more zero (x ∷ list) = refl
one_more (suc k) (x ∷ list) = ap (λ (l : List Definition). x ∷ l) (one_more k list)

pub first_reported : (list : List Definition) (k : ℕ) (x : Definition) → slice_get list k ≡ Some x → IsIn (Chosen (suc k) x) (reports_from list (suc k) most_reports)
unfolding reports_from reports reports_of definition_at
first_reported list k x at = subst (λ (o : Option Definition). IsIn (Chosen (suc k) x) (reports_of (suc k) o ++ reports_from list (suc (suc k)) 7)) (sym at) (inl refl)

module _ {T : Type 0} (n : ℕ) (executions : ℕ → Execution T) where
  served_along : (received : List (Message Definition)) → AreReported n executions received → (list : List Definition) → IsListOfFarm n executions list → IsListOfFarm n executions (learned list received)
  unfolding learned
  served_along [] reports list served = served
  served_along (m ∷ received) reports list served =
      let states = reports m (inl refl) in
      served_along received (λ x is_in. reports x (inr is_in)) (after_learning list m) (Learned list states.source (after_learning list m) states.asked m served states.served states.reports refl)

  next_served : (list : List Definition) → IsListOfFarm n executions list → (k : ℕ) → IsListOfFarm n executions (take k list) → (o : Option Definition) → slice_get list k ≡ o → IsListOfFarm n executions (take (suc k) list)
  next_served list served k was None at =
      subst (IsListOfFarm n executions) (sym (one_more k list ∙ ap (λ (o : Option Definition). take k list ++ option_to_list o) at ∙ append-nil (take k list))) was
  next_served list served k was (Some x) at =
      let within : k < length list = slice_get_within list k x at in
      let size : suc k ≡ next_of (take k list) = omega (arith, length-take-le k list (omega (arith, within))) in
      Learned (take k list) list (take (suc k) list) (suc k) (Chosen (suc k) x) was served (first_reported list k x at)
      (one_more k list ∙ ap (λ (o : Option Definition). take k list ++ option_to_list o) at ∙ sym (learned_own (take k list) (suc k) x size))

  front_served : (list : List Definition) → IsListOfFarm n executions list → (k : ℕ) → IsListOfFarm n executions (take k list)
  front_served list served zero = Empty [] refl
  front_served list served (suc k) = next_served list served k (front_served list served k) (slice_get list k) refl

pub learned_are_served : {T : Type 0} → LearnedAreServed T
learned_are_served {T} = λ n executions received reports k. served_along n executions (take k received) (λ m is_in. reports m (in_take k received m is_in)) [] (Empty [] refl)

pub beginnings_are_served : {T : Type 0} → BeginningsAreServed T
beginnings_are_served {T} = λ n executions list served k. front_served n executions list served k

pub learned_agree : {T : Type 0} (tapes : Tape T) → ServedAgree tapes → LearnedAgree tapes
learned_agree tapes agree = λ n executions items farm received other reports also k l s c d at there.
    agree n executions items farm (learned [] (take k received)) (learned [] (take l other)) (learned_are_served n executions received reports k) (learned_are_served n executions other also l) s c d at there

pub learned_answer : {T : Type 0} (tapes : Tape T) → ServedAnswer tapes → LearnedAnswer tapes
learned_answer tapes alike = λ n executions items farm received other reports also k l s query answer another long longer is is_other.
    alike n executions items farm (learned [] (take k received)) (learned [] (take l other)) (learned_are_served n executions received reports k) (learned_are_served n executions other also l) s query answer another long longer is is_other

-- Cached pictures outlast what a replica hears.
pub still_cached : (old new : List Definition) (m : Message Definition) (cache : CacheValue) → new ≡ after_learning old m → AllCached old cache → AllCached new cache
still_cached old new m cache is cached =
    let grown = receives_on old m in
    subst (λ (list : List Definition). AllCached list cache) (grown.1 ∙ sym is) (growth_keeps old grown.0 cache cached)
