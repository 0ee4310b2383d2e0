-- Whether one of the votes is at a ballot.
use Rattle.std.proofs.Common.{◌≡◌, ℕ, zero, suc, ◌+◌, ◌≤◌, Bool, true, false, ◌||◌, Option, refl, sym, ap, ◌∙◌, arith, inl, inr}
use Rattle.std.proofs.lemmas.Bool.{cases_eq}
use Rattle.wf_ballot.specs.Ballot.{Ballot}
use Rattle.wf_def.specs.Definition.{Definition}
use Rattle.wf_model.specs.Message.{Vote}
use Rattle.wf_model.specs.Table.{votes_at}
use Rattle.wf_node.specs.Compaction.{is_voted}

second_true : (first second : Bool) → second ≡ true → (first || second) ≡ true
second_true true second is = refl
second_true false second is = is

module _ (votes : ℕ → Option (Vote Definition)) (b : Ballot) where
  pub not_voted_yet : (n : ℕ) → suc n ≡ 1 → is_voted votes b n ≡ false
  unfolding is_voted
  not_voted_yet zero first = refl
  not_voted_yet (suc n) first = absurd (omega (arith, first))

  -- None of the first ones is, and the next one isn't either.
  pub not_voted_next : (number s n : ℕ) → 1 ≤ number → ((k : ℕ) → suc k ≡ number → is_voted votes b k ≡ false) → s ≡ number → votes_at (votes s) b ≡ false →
      suc n ≡ number + 1 → is_voted votes b n ≡ false
  unfolding is_voted
  not_voted_next zero s n from before same here next = absurd (omega (arith, from))
  not_voted_next (suc k) s n from before same here next =
      let last : n ≡ suc k = omega (arith, next) in
      ap (is_voted votes b) last
      ∙ ap (λ first. first || votes_at (votes (suc k)) b) (before k refl)
      ∙ ap (λ t. votes_at (votes t) b) (sym same) ∙ here

  -- One is.
  pub voted_within : (s n : ℕ) → votes_at (votes s) b ≡ true → 1 ≤ s → s ≤ n → is_voted votes b n ≡ true
  unfolding is_voted
  voted_within s zero here from to = absurd (omega (arith, from, to))
  voted_within s (suc n) here from to =
      elim (cases_eq s (suc n)) [
        | inl last ↦ second_true (is_voted votes b n) (votes_at (votes (suc n)) b) (ap (λ t. votes_at (votes t) b) (sym last) ∙ here)
        | inr before ↦ ap (λ first. first || votes_at (votes (suc n)) b) (voted_within s n here from (omega (arith, to, before)))
      ]
