-- The tapes of a folder are read, and compared with the one that has published most.
use Rattle.std.proofs.Common.{◌≡◌, ◌∙◌, ◌+◌, ◌<◌, ◌≤◌, ℕ, zero, suc, List, [], ◌∷◌, length, ap, arith, inl, inr, refl, subst, sym}
use Rattle.std.proofs.lemmas.Option.{none-some, same_Some}
use Rattle.std.proofs.lemmas.Bool.{cases_lt}
use Rattle.std.specs.Prelude.{Option, Some, None, Result, Ok, Err, IfOk, slice_get, slice_index_or}
use Rattle.wf_def.specs.Definition.{Definition}
use Rattle.wf_folder.specs.declared.presence.Presence.{Presence}
use Rattle.wf_folder.specs.declared.presence.Presence.TheVariants.{Absent}
use Rattle.wf_model.specs.DurableState.{DurableState, definition_at}
use Rattle.wf_node.specs.Node.{stored_of}
use Rattle.wf_node.specs.OpenedNode.{IsFoldOf}
use Rattle.wf_serve.proofs.Difference.{none_past}
use Rattle.wf_serve.specs.Difference.{Agree}
use Rattle.wf_serve.specs.LongestTape.{AreBelow, HaveLongest, IsLonger, IsLongerOf, IsNextChecked, IsNextLongest}
use Rattle.wf_serve.specs.TapeCheck.{AllAgree, AreTapesChecked, AreTapesRead, IsNextRead, IsTapeRead}
use Rattle.wf_serve.specs.declared.check.Longest.{Longest}
use Rattle.wf_serve.specs.declared.event.Cause.{Cause}
use Rattle.wf_store.specs.Call.{Call}

-- ---- histories that agree

slice_there : (list : List Definition) (k : ℕ) → k < length list → (d : Definition) × (slice_get list k ≡ Some d)
slice_there [] k within = absurd (omega (arith, within))
slice_there (x ∷ rest) zero within = (x, refl)
slice_there (x ∷ rest) (suc k) within = slice_there rest k (omega (arith, within))

-- a longer one has a definition wherever this one has
has_one : (history : List Definition) (s : ℕ) → s ≤ length history → (d : Definition) → definition_at history s ≡ Some d → (long : List Definition) → length history ≤ length long → (e : Definition) × (definition_at long s ≡ Some e)
unfolding definition_at
has_one history zero within d is long least = absurd (none-some d is)
has_one history (suc k) within d is long least = slice_there long k (omega (arith, within, least))

agrees_back : (first second : List Definition) → Agree first second → Agree second first
agrees_back first second agree s d e is other = sym (agree s e d other is)

agrees_itself : (history : List Definition) → Agree history history
agrees_itself history s d e is other = same_Some d e (sym is ∙ other)

-- what agrees with a longer one agrees with what that agrees with
agrees_through : (one long other : List Definition) → length one ≤ length long → Agree one long → Agree long other → Agree one other
agrees_through one long other least first second s d e is also = elim (cases_lt (length one) s) [
  | inl past ↦ absurd (none-some d (sym (none_past one s past) ∙ is))
  | inr within ↦
      let there = has_one one s within d is long least in
      first s d there.0 is there.1 ∙ second s there.0 e there.1 also
]

-- ---- the longer of two

module _ (first second : DurableState Definition) (one other : List Definition) (count most : ℕ) (is_one : one ≡ first.history) (is_other : other ≡ second.history)
    (counts : count ≡ length first.history) (counts_other : most ≡ length second.history) (agree : Agree one other) where
  both_agree : Agree first.history second.history
  both_agree = subst (λ (h : List Definition). Agree first.history h) is_other (subst (λ (h : List Definition). Agree h other) is_one agree)

  pub first_is_longer : most ≤ count → IsLongerOf first second first
  first_is_longer least = record { agree = both_agree; is = inl (refl, omega (arith, least, counts, counts_other)) }

  pub second_is_longer : count < most → IsLongerOf first second second
  second_is_longer less = record { agree = both_agree; is = inr (refl, omega (arith, less, counts, counts_other)) }

-- with it the next one is, and the first one if there was none
some_longest : (result : Result Longest Cause) (bytes : List ℕ) (longest : Longest) (state : DurableState Definition) → IsFoldOf state bytes →
    IfOk result (λ longer. IsLongerOf (stored_of longest.node) state (stored_of longer.node)) → IfOk result (IsNextLongest bytes (Some longest))
some_longest (Ok longer) bytes longest state folds is = record { state = state; folds = folds; is = is }
some_longest (Err cause) bytes longest state folds is = tt

pub next_longest : (result : Result Longest Cause) (bytes : List ℕ) (before : Option Longest) (longest : Longest) (state : DurableState Definition) → before ≡ Some longest → IsFoldOf state bytes →
    IfOk result (λ longer. IsLongerOf (stored_of longest.node) state (stored_of longer.node)) → IfOk result (IsNextLongest bytes before)
next_longest result bytes before longest state there folds is =
    subst (λ (b : Option Longest). IfOk result (IsNextLongest bytes b)) (sym there) (some_longest result bytes longest state folds is)

pub first_longest : (bytes : List ℕ) (before : Option Longest) (longer : Longest) → before ≡ None → IsFoldOf (stored_of longer.node) bytes → IsNextLongest bytes before longer
first_longest bytes before longer none folds = record {
  state = stored_of longer.node;
  folds = folds;
  is = subst (λ (b : Option Longest). IsLonger b (stored_of longer.node) longer) (sym none) refl;
}

pub next_checked : (result : Result Longest Cause) (presence : Presence) (number : ℕ) (bytes : List ℕ) (longest : Option Longest) (old new : List Call) → IsTapeRead presence number bytes old new →
    IfOk result (IsNextLongest bytes longest) → IfOk result (λ longer. IsNextChecked presence number longest longer old new)
next_checked (Ok longer) presence number bytes longest old new read next = record { bytes = bytes; read = read; next = next }
next_checked (Err cause) presence number bytes longest old new read next = tt

-- ---- all of them

first_each : (states : List (DurableState Definition)) (first second : DurableState Definition) → AreBelow states first → length second.history ≤ length first.history → Agree first.history second.history →
    (i : ℕ) (state : DurableState Definition) → slice_get (second ∷ states) i ≡ Some state → (length state.history ≤ length first.history) × Agree state.history first.history
first_each states first second below least agree zero state at =
    subst (λ (s : DurableState Definition). (length s.history ≤ length first.history) × Agree s.history first.history) (same_Some second state at) (least, agrees_back first.history second.history agree)
first_each states first second below least agree (suc i) state at = below.each i state at

below_first : (states : List (DurableState Definition)) (first second longer : DurableState Definition) → AreBelow states first → longer ≡ first → length second.history ≤ length first.history → Agree first.history second.history →
    AreBelow (second ∷ states) longer
below_first states first second longer below is least agree = record {
  each = subst (λ (l : DurableState Definition). (i : ℕ) (state : DurableState Definition) → slice_get (second ∷ states) i ≡ Some state → (length state.history ≤ length l.history) × Agree state.history l.history) (sym is)
      (first_each states first second below least agree);
}

second_each : (states : List (DurableState Definition)) (first second : DurableState Definition) → AreBelow states first → length first.history ≤ length second.history → Agree first.history second.history →
    (i : ℕ) (state : DurableState Definition) → slice_get (second ∷ states) i ≡ Some state → (length state.history ≤ length second.history) × Agree state.history second.history
second_each states first second below least agree zero state at =
    subst (λ (s : DurableState Definition). (length s.history ≤ length second.history) × Agree s.history second.history) (same_Some second state at) (omega arith, agrees_itself second.history)
second_each states first second below least agree (suc i) state at =
    let this = below.each i state at in
    (omega (arith, this.0, least), agrees_through state.history first.history second.history this.0 this.1 agree)

below_second : (states : List (DurableState Definition)) (first second longer : DurableState Definition) → AreBelow states first → longer ≡ second → length first.history ≤ length second.history → Agree first.history second.history →
    AreBelow (second ∷ states) longer
below_second states first second longer below is least agree = record {
  each = subst (λ (l : DurableState Definition). (i : ℕ) (state : DurableState Definition) → slice_get (second ∷ states) i ≡ Some state → (length state.history ≤ length l.history) × Agree state.history l.history) (sym is)
      (second_each states first second below least agree);
}

below_next : (states : List (DurableState Definition)) (first second longer : DurableState Definition) → AreBelow states first → IsLongerOf first second longer → AreBelow (second ∷ states) longer
below_next states first second longer below more = elim more.is [
  | inl kept ↦ below_first states first second longer below kept.0 kept.1 more.agree
  | inr taken ↦ below_second states first second longer below taken.0 taken.1 more.agree
]

none_each : (first longer : DurableState Definition) → longer ≡ first → (i : ℕ) (state : DurableState Definition) → slice_get (first ∷ []) i ≡ Some state →
    (length state.history ≤ length longer.history) × Agree state.history longer.history
none_each first longer is zero state at =
    subst (λ (s : DurableState Definition). (length s.history ≤ length longer.history) × Agree s.history longer.history) (is ∙ same_Some first state at) (omega arith, agrees_itself longer.history)
none_each first longer is (suc i) state at = absurd (none-some state at)

pub have_next : (states : List (DurableState Definition)) (longest : Option Longest) (state : DurableState Definition) (longer : Longest) → HaveLongest states longest → IsLonger longest state longer →
    HaveLongest (state ∷ states) (Some longer)
have_next states None state longer have is =
    subst (λ (s : List (DurableState Definition)). HaveLongest (state ∷ s) (Some longer)) (sym have) (record { each = none_each state (stored_of longer.node) is })
have_next states (Some longest) state longer have is = below_next states (stored_of longest.node) state (stored_of longer.node) have is

-- The first tapes were read, and the longest is kept.
pub record HaveRead (tapes : List Presence) (number : ℕ) (longest : Option Longest) (old new : List Call) : Type 0 where
  pub states : List (DurableState Definition)
  pub read : AreTapesRead tapes number states old new
  pub have : HaveLongest states longest

pub none_checked : (tapes : List Presence) (calls : List Call) → HaveRead tapes 0 None calls calls
unfolding AreTapesRead
none_checked tapes calls = record { states = []; read = (refl, refl); have = refl }

next_read : (tapes : List Presence) (number : ℕ) (states : List (DurableState Definition)) (state : DurableState Definition) (old middle new : List Call) → AreTapesRead tapes number states old middle →
    IsNextRead (slice_index_or tapes number Absent) number state middle new → AreTapesRead tapes (suc number) (state ∷ states) old new
unfolding AreTapesRead
next_read tapes number states state old middle new read next = (middle, read, next)

pub one_more_checked : (tapes : List Presence) (number : ℕ) (presence : Presence) (longest : Option Longest) (longer : Longest) (old middle new : List Call) → presence ≡ slice_index_or tapes number Absent →
    HaveRead tapes number longest old middle → IsNextChecked presence number longest longer middle new → HaveRead tapes (number + 1) (Some longer) old new
one_more_checked tapes number presence longest longer old middle new there have next =
    let here : IsNextRead presence number next.next.state middle new = record { bytes = next.bytes; read = next.read; folds = next.next.folds } in
    let at : IsNextRead (slice_index_or tapes number Absent) number next.next.state middle new = subst (λ (p : Presence). IsNextRead p number next.next.state middle new) there here in
    let same : suc number ≡ number + 1 = omega arith in
    record {
      states = next.next.state ∷ have.states;
      read = subst (λ (n : ℕ). AreTapesRead tapes n (next.next.state ∷ have.states) old new) same (next_read tapes number have.states next.next.state old middle new have.read at);
      have = have_next have.states longest next.next.state longer have.have next.next.is;
    }

below_agree : (states : List (DurableState Definition)) (longest : DurableState Definition) → AreBelow states longest → AllAgree states
below_agree states longest below i j one other at also =
    let first = below.each i one at in
    let second = below.each j other also in
    agrees_through one.history longest.history other.history first.0 first.1 (agrees_back other.history longest.history second.1)

pub all_agree : (states : List (DurableState Definition)) (longest : Option Longest) → HaveLongest states longest → AllAgree states
all_agree states None have i j one other at also = absurd (none-some one (ap (λ (s : List (DurableState Definition)). slice_get s i) (sym have) ∙ at))
all_agree states (Some longest) have i j one other at also = below_agree states (stored_of longest.node) have i j one other at also

pub all_checked : (n number : ℕ) (tapes : List Presence) (longest : Option Longest) (old new : List Call) → number ≡ n → HaveRead tapes number longest old new → AreTapesChecked n tapes old new
all_checked n number tapes longest old new all have = record {
  states = have.states;
  read = subst (λ (k : ℕ). AreTapesRead tapes k have.states old new) all have.read;
  agree = all_agree have.states longest have.have;
}
