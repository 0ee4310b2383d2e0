use Rattle.std.proofs.Common.{◌≡◌, ◌∙◌, ap, sym, ℕ, suc, ◌+◌, ◌==◌, ◌<◌, ◌≤◌, true, false, List, [], ◌∷◌, map, drop, length, get_or, string_bytes, refl, arith}
use Rattle.std.specs.Prelude.{Option, Some, None, String}
use Rattle.std.specs.declared.alloc.Global.{Global}
use Rattle.std.proofs.lemmas.Bool.Decides.{nat_tests}
use Rattle.std.proofs.lemmas.List.{at_drop_more, at_drop_all}
use Rattle.wf_wms.specs.Query.{parameter, is_same_name, unless_empty}
use Rattle.wf_wms.proofs.query.Query.parameter.Goals as goal

abbrev Pair : Type 0
Pair = String Global × String Global

abbrev bytes_of : Pair → List ℕ × List ℕ
bytes_of pair = (string_bytes pair.0, string_bytes pair.1)

-- a pair of another name doesn't decide
passed : (name : List ℕ) (pairs : List Pair) (i : ℕ) (pair : Pair) → i < length pairs → pair ≡ get_or pairs i pair
    → is_same_name (string_bytes pair.0) name ≡ false
    → parameter name (map bytes_of (drop (i + 1) pairs)) ≡ parameter name (map bytes_of (drop i pairs))
unfolding parameter
passed name pairs i pair within is other =
    let F : List Pair → Option (List ℕ) = λ rest. parameter name (map bytes_of rest) in
    let step : F (drop i pairs) ≡ F (get_or pairs i pair ∷ drop (i + 1) pairs) = at_drop_more F pairs i pair within in
    let at_pair : F (get_or pairs i pair ∷ drop (i + 1) pairs) ≡ F (pair ∷ drop (i + 1) pairs)
    = ap (λ (p : Pair). F (p ∷ drop (i + 1) pairs)) (sym is) in
    let skips : F (pair ∷ drop (i + 1) pairs) ≡ F (drop (i + 1) pairs) = rw other refl in
    sym (step ∙ at_pair ∙ skips)

-- the first pair of the name decides
met : (name : List ℕ) (pairs : List Pair) (i : ℕ) (pair : Pair) → i < length pairs → pair ≡ get_or pairs i pair
    → is_same_name (string_bytes pair.0) name ≡ true
    → parameter name (map bytes_of (drop i pairs)) ≡ unless_empty (string_bytes pair.1)
unfolding parameter
met name pairs i pair within is same =
    let F : List Pair → Option (List ℕ) = λ rest. parameter name (map bytes_of rest) in
    let step : F (drop i pairs) ≡ F (get_or pairs i pair ∷ drop (i + 1) pairs) = at_drop_more F pairs i pair within in
    let at_pair : F (get_or pairs i pair ∷ drop (i + 1) pairs) ≡ F (pair ∷ drop (i + 1) pairs)
    = ap (λ (p : Pair). F (p ∷ drop (i + 1) pairs)) (sym is) in
    let decides : F (pair ∷ drop (i + 1) pairs) ≡ unless_empty (string_bytes pair.1) = rw same refl in
    step ∙ at_pair ∙ decides

-- a name that no pair has
never : (name : List ℕ) (pairs : List Pair) (i : ℕ) → length pairs ≤ i → parameter name (map bytes_of (drop i pairs)) ≡ None
unfolding parameter
never name pairs i past =
    let F : List Pair → Option (List ℕ) = λ rest. parameter name (map bytes_of rest) in
    at_drop_all F pairs i past

not_zero : (n : ℕ) → (suc n == 0) ≡ true → ⊥
not_zero n zero = grind (arith, nat_tests)

-- an empty value counts as absent, any other as itself
none_if_empty : (value : List ℕ) → (length value == 0) ≡ true → unless_empty value ≡ None
none_if_empty [] empty = refl
none_if_empty (byte ∷ bytes) empty = absurd (not_zero (length bytes) empty)

some_if_not : (value : List ℕ) → (length value == 0) ≡ false → unless_empty value ≡ Some value
some_if_not [] empty = cc
some_if_not (byte ∷ bytes) empty = refl

pub loop-given-init : goal.loop-given-init
loop-given-init c = ap (parameter c.args.name.now) (rw c.deref-given-items.ensures.value c.self.view_is)

pub returns-then-is_empty : goal.returns-then-is_empty
returns-then-is_empty c =
    let found = met c.args.name.now c.deref-given-items.result.now c.loop-given.given-index c.loop-given-item.result c.loop-given-test.true c.loop-given-item.is (cc) in
    let empty = none_if_empty c.as_str-text.result.now (cc) in
    cc (c.loop-given.invariant, c.as_str-text.ensures.value)

pub returns-else-is_empty : goal.returns-else-is_empty
returns-else-is_empty c =
    let found = met c.args.name.now c.deref-given-items.result.now c.loop-given.given-index c.loop-given-item.result c.loop-given-test.true c.loop-given-item.is (cc) in
    let value = some_if_not c.as_str-text.result.now (cc) in
    cc (c.loop-given.invariant, c.as_str-text.ensures.value)

pub loop-given-preserved : goal.loop-given-preserved
loop-given-preserved c =
    passed c.args.name.now c.deref-given-items.result.now c.loop-given.given-index c.loop-given-item.result c.loop-given-test.true c.loop-given-item.is (cc)
    ∙ c.loop-given.invariant

pub returns : goal.returns
returns c = sym (never c.args.name.now c.deref-given-items.result.now c.loop-given.given-index c.loop-given-test.false) ∙ c.loop-given.invariant
