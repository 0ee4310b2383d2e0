-- A list is cut at its first element that fails a test.
use Rattle.std.proofs.Common.{◌≡◌, ◌+◌, suc, Bool, true, false, List, [], ◌∷◌, take, drop, refl, arith}
use Rattle.std.specs.List.{list_all, prefix_len}
use Rattle.wf_block.specs.Lexeme.{begins}

-- the elements before the first that fails a test pass it
front_passes_by : {X : Type 0} (passes : Bool) (test : X → Bool) (x : X) (xs : List X) → test x ≡ passes → list_all test (take (prefix_len test xs) xs) ≡ true → list_all test (take (prefix_len test (x ∷ xs)) (x ∷ xs)) ≡ true
front_passes_by true test x xs passes rest =
    let counted : 1 + prefix_len test xs ≡ suc (prefix_len test xs) = omega arith in
    rw (passes, counted, passes) rest
front_passes_by false test x xs passes rest = rw passes

pub front_passes : {X : Type 0} (test : X → Bool) (xs : List X) → list_all test (take (prefix_len test xs) xs) ≡ true
front_passes test [] = refl
front_passes test (x ∷ xs) = front_passes_by (test x) test x xs refl (front_passes test xs)

-- the first element of the rest, if there is one, fails the test
back_fails_by : {X : Type 0} (passes : Bool) (test : X → Bool) (x : X) (xs : List X) → test x ≡ passes → begins test (drop (prefix_len test xs) xs) ≡ false → begins test (drop (prefix_len test (x ∷ xs)) (x ∷ xs)) ≡ false
back_fails_by true test x xs passes rest =
    let counted : 1 + prefix_len test xs ≡ suc (prefix_len test xs) = omega arith in
    rw (passes, counted) rest
back_fails_by false test x xs passes rest = rw (passes, passes)

pub back_fails : {X : Type 0} (test : X → Bool) (xs : List X) → begins test (drop (prefix_len test xs) xs) ≡ false
back_fails test [] = refl
back_fails test (x ∷ xs) = back_fails_by (test x) test x xs refl (back_fails test xs)
