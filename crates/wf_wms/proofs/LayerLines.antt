-- Lines for the first layers, and for one more.
use Rattle.std.proofs.Common.{◌≡◌, ℕ, ◌+◌, List, [], ◌∷◌, ◌++◌, take, ap, sym, ◌∙◌}
use Rattle.std.specs.Prelude.{Some}
use Rattle.std.specs.List.{flat_map, slice_get}
use Rattle.std.proofs.lemmas.List.{take_more, flat_map_more}
use Rattle.std.proofs.lemmas.Option.{slice_get_within, get_or_from_slice_get}

-- the first n of a list and the next are its first n + 1
next_of : {X : Type 0} (xs : List X) (i : ℕ) (x : X) → slice_get xs i ≡ Some x → take (i + 1) xs ≡ take i xs ++ x ∷ []
next_of xs i x found = take_more xs i x (slice_get_within xs i x found) ∙ ap (λ y. take i xs ++ y ∷ []) (get_or_from_slice_get xs i x x found)

pub one_line_more : {X A : Type 0} (f : X → List A) (before written after : List A) (xs : List X) (i : ℕ) (x : X) →
    slice_get xs i ≡ Some x → written ≡ before ++ flat_map f (take i xs) → after ≡ written ++ f x → after ≡ before ++ flat_map f (take (i + 1) xs)
one_line_more f before written after xs i x found so_far line =
    line ∙ ap (λ w. w ++ f x) so_far ∙ flat_map_more f before (take i xs) x ∙ ap (λ ys. before ++ flat_map f ys) (sym (next_of xs i x found))
