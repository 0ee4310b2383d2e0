-- Keywords up to END, one by one.
use Rattle.std.proofs.Common.{◌≡◌, ℕ, suc, ◌+◌, ◌-◌, ◌<◌, ◌≤◌, List, arith, Bool, rules}
use Rattle.std.specs.Prelude.{Option, Some, None, if◌then◌else◌, bytes_eq, IsTrue, ◌↔◌}
use Rattle.wf_block.specs.Token.{Token}
use Rattle.wf_block.specs.Grammar.{◌>>=◌, word, is_end}
use Rattle.wf_block.specs.Steps.{fill}
use Rattle.std.proofs.lemmas.Slice.Eq.{bytes_eq-Decides}

-- one keyword of a block, or its END
pub fill_step : {S : Type 0} (put : S → List ℕ → List Token → Option (S × List Token)) (n i : ℕ) (slots : S) (tokens : List Token) → i < n →
    fill put (n - i) slots tokens ≡ (word tokens >>= λ x. if is_end x.0 then Some (slots, x.1) else put slots x.0 x.1 >>= λ y. fill put (n - (i + 1)) y.0 y.1)
unfolding fill
fill_step put n i slots tokens below = let left : n - i ≡ suc (n - (i + 1)) = omega arith in rw left

-- no more keywords may come, and no END came
pub fill_past : {S : Type 0} (put : S → List ℕ → List Token → Option (S × List Token)) (n i : ℕ) (slots : S) (tokens : List Token) → n ≤ i → fill put (n - i) slots tokens ≡ None
unfolding fill
fill_past put n i slots tokens past = let none : n - i ≡ 0 = omega arith in rw none

-- Names without regard to letter case.
pub tested : (xs ys : List ℕ) (r : Bool) → (IsTrue r ↔ (xs ≡ ys)) → r ≡ bytes_eq xs ys
tested xs ys r h = search (rules, bytes_eq-Decides)
