-- Points up to END, one by one.
use Rattle.std.proofs.Common.{◌≡◌, ℕ, suc, ◌+◌, ◌-◌, ◌<◌, ◌≤◌, Bool, true, false, List, [], ◌∷◌, ◌++◌, length, arith, length-append, refl, ◌∙◌}
use Rattle.std.proofs.lemmas.Bool.Decides.{nat_tests}
use Rattle.std.specs.Prelude.{nat_lt, Option, Some, None, is_some, if◌then◌else◌}
use Rattle.std.specs.Option.{option_or}
use Rattle.wf_def.specs.declared.point.Point.{Point}
use Rattle.wf_block.specs.Token.{Token}
use Rattle.wf_block.specs.Grammar.{◌>>=◌, end}
use Rattle.wf_block.specs.Steps.{again}
use Rattle.wf_feature.specs.Feature.{point, points_behind}

-- one point, or END
pub points_step : (most : ℕ) (part : List Point) (n i : ℕ) (tokens : List Token) → i < n →
    points_behind most part (n - i) tokens
    ≡ option_or (end tokens >>= λ rest. Some (part, rest)) (again most part point (λ more. more) tokens >>= λ x. points_behind most x.0 (n - (i + 1)) x.1)
unfolding points_behind
points_step most part n i tokens below = let left : n - i ≡ suc (n - (i + 1)) = omega arith in rw left

-- no more points may come, and no END came
pub points_past : (most : ℕ) (part : List Point) (n i : ℕ) (tokens : List Token) → n ≤ i → points_behind most part (n - i) tokens ≡ None
unfolding points_behind
points_past most part n i tokens past = let none : n - i ≡ 0 = omega arith in rw none

-- a point appended to those so far
pub points_more : (most : ℕ) (part : List Point) (n i : ℕ) (tokens rest : List Token) (next : Point) → i < n → is_some (end tokens) ≡ false →
    (if nat_lt (length part) most then point tokens else None) ≡ Some (next, rest) →
    points_behind most part (n - i) tokens ≡ points_behind most (part ++ next ∷ []) (n - (i + 1)) rest
points_more most part n i tokens rest next below closed read =
    points_step most part n i tokens below
    ∙ rw (not_some (end tokens) closed) (behind (nat_lt (length part) most) (point tokens) (λ x. points_behind most x.0 (n - (i + 1)) x.1) read)
  where
    not_some : (o : Option (List Token)) → is_some o ≡ false → o ≡ None
    not_some None e = refl
    not_some (Some x) e = absurd (let impossible : ⊥ = cc in impossible)

    behind : (room : Bool) (o : Option (Point × List Token)) (k : List Point × List Token → Option (List Point × List Token)) → (if room then o else None) ≡ Some (next, rest) →
        ((if room then (o >>= λ x. Some (part ++ x.0 ∷ [], x.1)) else None) >>= k) ≡ k (part ++ next ∷ [], rest)
    behind true o k e = rw e refl
    behind false o k e = absurd (let impossible : ⊥ = cc in impossible)

-- with a point for which there is room there are at most n
pub points_fit : (most : ℕ) (part : List Point) (next : Point) → nat_lt (length part) most ≡ true → length (part ++ next ∷ []) ≤ most
points_fit most part next room = simp length-append (grind (arith, nat_tests))
