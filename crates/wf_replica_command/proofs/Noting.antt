-- Which sources refuse a replica, as one more is noted.
use Rattle.std.proofs.Common.{◌≡◌, ◌∙◌, ℕ, ◌≤◌, ◌<◌, List, [], get_or, length, replicate, inl, inr, refl, sym, ap, subst, arith, slice_get, slice_set, Option, Some, None}
use Rattle.std.specs.Prelude.{◌≢◌, Bool, true, false, Err, IsSome}
use Rattle.std.proofs.lemmas.Bool.{cases_eq, cases_lt}
use Rattle.std.proofs.lemmas.List.{get_or-replicate, get_or-set_other, get_or-set_same, length-replicate, length-set}
use Rattle.std.proofs.lemmas.Option.{get_or_from_slice_get, slice_get-get_or, slice_get_within}
use Rattle.wf_def.specs.Definition.{Definition}
use Rattle.wf_reader.specs.ReaderAnswer.{ReaderAnswer}
use Rattle.wf_reader.specs.declared.rejection.QuestionRejection.{QuestionRejection}
use Rattle.wf_replica.specs.Fit.{IsFoundDifferent, IsOfOtherHistory, IsOtherHistory}
use Rattle.wf_replica.specs.declared.misfit.AnswerFault.TheVariants as faults
use Rattle.wf_replica.specs.declared.misfit.Misfit.{Misfit}
use Rattle.wf_replica_command.specs.Heard.{IsFewer, IsNoted}

own_set : (source : ℕ) (refuses : Bool) (old : List Bool) → source < length old → slice_get (slice_set old source refuses) source ≡ Some true → refuses ≡ true
own_set source refuses old within is =
    sym (get_or-set_same old source refuses false within) ∙ get_or_from_slice_get (slice_set old source refuses) source true false is

other_set : (source i : ℕ) (refuses : Bool) (old : List Bool) → i ≢ source → slice_get (slice_set old source refuses) i ≡ Some true → slice_get old i ≡ Some true
other_set source i refuses old differs is =
    let there : i < length old = omega (arith, slice_get_within (slice_set old source refuses) i true is, length-set old source refuses) in
    slice_get-get_or old i false there
    ∙ ap (λ (b : Bool). Some b) (sym (get_or-set_other old source i refuses false differs) ∙ get_or_from_slice_get (slice_set old source refuses) i true false is)

pub noted_by : (source : ℕ) (refuses : Bool) (old new : List Bool) → (source < length old → new ≡ slice_set old source refuses) → (length old ≤ source → new ≡ old) →
    IsNoted source (refuses ≡ true) old new
noted_by source refuses old new within beyond = elim (cases_lt source (length old)) [
  | inl there ↦ record {
    own = λ is. own_set source refuses old there (subst (λ (r : List Bool). slice_get r source ≡ Some true) (within there) is);
    others = λ i differs is. other_set source i refuses old differs (subst (λ (r : List Bool). slice_get r i ≡ Some true) (within there) is);
  }
  | inr past ↦ record {
    own = λ is. absurd (omega (arith, past, slice_get_within old source true (subst (λ (r : List Bool). slice_get r source ≡ Some true) (beyond past) is)));
    others = λ i differs is. subst (λ (r : List Bool). slice_get r i ≡ Some true) (beyond past) is;
  }
]

pub noted_for : {P Q : Type 0} (source : ℕ) (old new : List Bool) → IsNoted source P old new → (P → Q) → IsNoted source Q old new
noted_for source old new noted why = record { own = λ refuses. why (noted.own refuses); others = noted.others }

-- the same, of equal lists
pub noted_there : {P : Type 0} (source source' : ℕ) (old old' new new' : List Bool) → IsNoted source' P old' new → source' ≡ source → old' ≡ old → new' ≡ new → IsNoted source P old new'
noted_there {P} source source' old old' new new' noted same before after =
    subst (λ (s : ℕ). IsNoted s P old new') same (subst (λ (r : List Bool). IsNoted source' P r new') before (subst (λ (r : List Bool). IsNoted source' P old' r) (sym after) noted))

none_is : IsSome {T = QuestionRejection} None → ⊥
none_is is = let no : false ≡ true = is in absurd cc

-- nothing was noted of the source, or that it doesn't refuse
pub noted_nothing : (source : ℕ) (old new new' : List Bool) → IsNoted source (IsSome {T = QuestionRejection} None) old new → new' ≡ new → IsNoted source ⊥ old new'
noted_nothing source old new new' noted after =
    noted_for source old new' (noted_there source source old old new new' noted refl refl after) (λ is. none_is is)

pub noted_never : {Q : Type 0} (source : ℕ) (old new : List Bool) → IsNoted source ⊥ old new → IsNoted source Q old new
noted_never source old new noted = noted_for source old new noted (λ is. absurd is)

-- the source refuses only where its answer shows another history
pub noted_misfit : (source : ℕ) (old new : List Bool) (refusal : Option QuestionRejection) (misfit : Misfit) (list : List Definition) (a : ReaderAnswer) →
    IsNoted source (IsSome refusal) old new → (IsSome refusal → IsOfOtherHistory misfit) → (IsFoundDifferent (Err (faults.Misfit misfit)) → IsOtherHistory list a) →
    IsNoted source (IsOtherHistory list a) old new
noted_misfit source old new refusal misfit list a noted refuses differs = noted_for source old new noted (λ is. differs (refuses is))

noted_bottom : (source : ℕ) (old new : List Bool) → IsNoted source ⊥ old new → IsFewer old new
noted_bottom source old new noted = λ i refuses. elim (cases_eq i source) [
  | inl same ↦ absurd (noted.own (subst (λ (j : ℕ). slice_get new j ≡ Some true) same refuses))
  | inr differs ↦ noted.others i differs refuses
]

pub noted_fewer : (source : ℕ) (old old' new : List Bool) → IsNoted source (IsSome {T = QuestionRejection} None) old' new → old' ≡ old → IsFewer old new
noted_fewer source old old' new noted before =
    subst (λ (r : List Bool). IsFewer r new) before (noted_bottom source old' new (noted_nothing source old' new new noted refl))

pub fewer_itself : (refusals : List Bool) → IsFewer refusals refusals
fewer_itself refusals = λ i refuses. refuses

pub fewer_same : (old new : List Bool) → new ≡ old → IsFewer old new
fewer_same old new same = subst (λ (r : List Bool). IsFewer old r) (sym same) (fewer_itself old)

pub set_length : (source : ℕ) (refuses : Bool) (old new : List Bool) → (source < length old → new ≡ slice_set old source refuses) → (length old ≤ source → new ≡ old) → length new ≡ length old
set_length source refuses old new within beyond = elim (cases_lt source (length old)) [
  | inl there ↦ ap length (within there) ∙ length-set old source refuses
  | inr past ↦ ap length (beyond past)
]

-- of none was noted that it refuses
pub none_refuses : (count : ℕ) (refusals : List Bool) → refusals ≡ replicate count false → IsFewer [] refusals
none_refuses count refusals is = λ i refuses.
    let at : slice_get (replicate count false) i ≡ Some true = subst (λ (r : List Bool). slice_get r i ≡ Some true) is refuses in
    let within : i < count = omega (arith, slice_get_within (replicate count false) i true at, length-replicate count false) in
    let value : get_or (replicate count false) i false ≡ true = get_or_from_slice_get (replicate count false) i true false at in
    let own : get_or (replicate count false) i false ≡ false = get_or-replicate count i false false within in
    absurd cc

pub one_each : (count : ℕ) (refusals : List Bool) → refusals ≡ replicate count false → length refusals ≡ count
one_each count refusals is = ap length is ∙ length-replicate count false
