-- Of two folders half of all nodes agree to one at most; and what a folder has that may vote.
use Rattle.std.proofs.Common.{◌≡◌, ◌⊎◌, ℕ, zero, suc, ◌*◌, ◌<◌, ◌≤◌, max, Bool, true, false, ◌&&◌, ◌==◌, not, List, [], ◌∷◌, inl, inr, refl, sym, ap, subst, eq-eqb, arith}
use Rattle.std.specs.Prelude.{Option, Some, slice_index_or}
use Rattle.std.specs.List.{list_all}
use Rattle.wf_ballot.specs.Majority.{count_nodes}
use Rattle.wf_model.specs.DurableState.{published}
use Rattle.wf_rejoin.specs.Answer.{highest}
use Rattle.wf_rejoin.specs.Joining.{HasHalf, agreed_count, agreed_nodes, has_agreed, highest_answer, highest_below, highest_of, owes, owes_nothing, stage_of}
use Rattle.wf_rejoin.specs.Replacements.{latest_of}
use Rattle.wf_rejoin.specs.Theorems.{AnswersAreBounds, AreKept, CountsNeverFall, OneFolder, VotersAreGuarded}
use Rattle.wf_rejoin.specs.declared.answer.Answer.{Answer}
use Rattle.wf_rejoin.specs.declared.joining.Joining.{Joining}
use Rattle.wf_rejoin.specs.declared.joining.Stage.{Stage}
use Rattle.wf_rejoin.specs.declared.joining.Stage.TheVariants.{Unasked, Agreed, Answered}
use Rattle.wf_rejoin.specs.declared.replacement.Replacement.{Replacement}
use Rattle.wf_rejoin.proofs.Halves.{halves_meet}
use Rattle.wf_rejoin.proofs.Kept.{in_order}

-- ---- of two folders one

pub counts_never_fall : CountsNeverFall
counts_never_fall = in_order

and_second : (a b : Bool) → (a && b) ≡ true → b ≡ true
and_second true b e = e
and_second false b e = absurd cc

not_itself : (j : Joining) → agreed_nodes j j.node ≡ false
not_itself j = ap (λ (b : Bool). not b && has_agreed (stage_of j j.node)) (eq-eqb j.node j.node refl)

half_counted : (j : Joining) → HasHalf j → j.nodes ≤ 2 * count_nodes j.nodes (agreed_nodes j)
unfolding agreed_count
half_counted j half = half

same_if_as_high : (r s : Replacement) → s.count ≡ r.count → (r.count < s.count) ⊎ (s ≡ r) → s ≡ r
same_if_as_high r s count order = elim order [
  | inl below ↦ absurd (omega (arith, count, below))
  | inr same ↦ same
]

-- one node knew of both
both_known : (tables : ℕ → ℕ → List (Option Replacement)) → AreKept tables → (x i k l : ℕ) (r s : Replacement) → s.count ≡ r.count →
    latest_of (tables x k) i ≡ Some r → latest_of (tables x l) i ≡ Some s → s ≡ r
both_known tables kept x i k l r s count at_k at_l = elim (in_either_order k l) [
  | inl order ↦ same_if_as_high r s count (in_order tables kept x i k l r s order at_k at_l)
  | inr order ↦ sym (same_if_as_high s r (sym count) (in_order tables kept x i l k s r order at_l at_k))
] where
  in_either_order : (a b : ℕ) → (a ≤ b) ⊎ (b ≤ a)
  in_either_order zero b = inl (omega arith)
  in_either_order (suc a) zero = inr (omega arith)
  in_either_order (suc a) (suc b) = elim (in_either_order a b) [
    | inl less ↦ inl (omega (arith, less))
    | inr more ↦ inr (omega (arith, more))
  ]

shared_one : (tables : ℕ → ℕ → List (Option Replacement)) (n i : ℕ) (a b : ℕ → Bool) (r s : Replacement) → AreKept tables → i < n → a i ≡ false → b i ≡ false →
    n ≤ 2 * count_nodes n a → n ≤ 2 * count_nodes n b → s.count ≡ r.count →
    ((x : ℕ) → x < n → a x ≡ true → (k : ℕ) × (latest_of (tables x k) i ≡ Some r)) →
    ((x : ℕ) → x < n → b x ≡ true → (k : ℕ) × (latest_of (tables x k) i ≡ Some s)) → s ≡ r
shared_one tables n i a b r s kept below out_a out_b half_a half_b count of_a of_b =
    let (x, shared) = halves_meet n i a b below out_a out_b (omega (arith, half_a, half_b)) in
    let (k, at_k) = of_a x shared.is_node shared.in_first in
    let (l, at_l) = of_b x shared.is_node shared.in_second in
    both_known tables kept x i k l r s count at_k at_l

pub one_folder : OneFolder
one_folder tables j other kept rivals first second =
    shared_one tables j.nodes j.node (agreed_nodes j) (agreed_nodes other) j.replacement other.replacement kept first.joins.member (not_itself j)
    (subst (λ (i : ℕ). agreed_nodes other i ≡ false) rivals.node (not_itself other))
    (half_counted j first.half)
    (subst (λ (n : ℕ). n ≤ 2 * count_nodes n (agreed_nodes other)) rivals.nodes (half_counted other second.half))
    rivals.count first.agreed
    (λ x below is_in. second_agreed x below is_in)
  where
    second_agreed : (x : ℕ) → x < j.nodes → agreed_nodes other x ≡ true → (k : ℕ) × (latest_of (tables x k) j.node ≡ Some other.replacement)
    second_agreed x below is_in =
        let (k, at) = second.agreed x (subst (λ (n : ℕ). x < n) (sym rivals.nodes) below) is_in in
        (k, subst (λ (i : ℕ). latest_of (tables x k) i ≡ Some other.replacement) rivals.node at)

-- ---- what a folder has that may vote

none_owes : (stages : List Stage) (i : ℕ) → list_all owes_nothing stages ≡ true → owes (slice_index_or stages i Unasked) ≡ false
none_owes [] i all = refl
none_owes (x ∷ stages) zero all = first_owes_nothing x (list_all owes_nothing stages) all
  where
    first_owes_nothing : (x : Stage) (rest : Bool) → (owes_nothing x && rest) ≡ true → owes x ≡ false
    first_owes_nothing Unasked rest e = refl
    first_owes_nothing Agreed rest e = absurd cc
    first_owes_nothing (Answered a) rest e = refl
none_owes (x ∷ stages) (suc i) all = none_owes stages i (and_second (owes_nothing x) (list_all owes_nothing stages) all)

has_answered : (x : Stage) → has_agreed x ≡ true → owes x ≡ false → (a : Answer) × (x ≡ Answered a)
has_answered Unasked agreed owes = absurd cc
has_answered Agreed agreed owes = absurd cc
has_answered (Answered a) agreed owes = (a, refl)

no_higher : (n i : ℕ) (stages : ℕ → Stage) → i < n → highest_of (stages i) ≤ highest_below n stages
unfolding highest_below
no_higher zero i stages below = absurd (omega (arith, below))
no_higher (suc n) i stages below = elim (last_or_before i n below) [
  | inl same ↦ subst (λ (k : ℕ). highest_of (stages k) ≤ max (highest_below n stages) (highest_of (stages n))) (sym same) (omega arith)
  | inr less ↦ omega (arith, no_higher n i stages less)
] where
  last_or_before : (i n : ℕ) → i < suc n → (i ≡ n) ⊎ (i < n)
  last_or_before zero zero below = inl refl
  last_or_before zero (suc n) below = inr (omega arith)
  last_or_before (suc i) zero below = absurd (omega (arith, below))
  last_or_before (suc i) (suc n) below = elim (last_or_before i n (omega (arith, below))) [
    | inl same ↦ inl (ap suc same)
    | inr less ↦ inr (omega (arith, less))
  ]

within_answer : (j : Joining) (i : ℕ) (a : Answer) → i < 64 → stage_of j i ≡ Answered a → highest a ≤ highest_answer j
unfolding highest_answer
within_answer j i a below e = subst (λ (x : Stage). highest_of x ≤ highest_below 64 (stage_of j)) e (no_higher 64 i (stage_of j) below)

pub voters_are_guarded : VotersAreGuarded
voters_are_guarded j published joins may = record {
  m = highest_answer j;
  asked = agreed_nodes j;
  half = half_counted j may.half;
  each = λ i below is_in. answered i below is_in;
  far = may.far;
} where
  answered : (i : ℕ) → i < j.nodes → agreed_nodes j i ≡ true → (a : Answer) × (stage_of j i ≡ Answered a) × (highest a ≤ highest_answer j)
  answered i below is_in =
      let (a, e) = has_answered (stage_of j i) (and_second (not (i == j.node)) (has_agreed (stage_of j i)) is_in) (none_owes j.stages i may.answered) in
      (a, e, within_answer j i a (omega (arith, below, joins.of_farm.1)) e)

pub answers_are_bounds : {V : Type 0} → AnswersAreBounds V
answers_are_bounds stored a m about bound = record {
  published_to = omega (arith, about.published_to, bound);
  voted_to = λ s less. about.voted_to s (omega (arith, less, bound));
}
