-- The entries of a list, as they are cut off one by one.
use Rattle.std.proofs.Common.{◌≡◌, ◌∙◌, ap, sym, ℕ, ◌==◌, ◌<◌, ◌∷◌, [], List, Bool, length, refl, arith}
use Rattle.std.specs.Prelude.{Option, Some, None, IfSome}
use Rattle.std.specs.List.{position, position_or_len, before_first, after_first}
use Rattle.std.proofs.lemmas.List.Quantifiers.{position-Some}
use Rattle.std.proofs.lemmas.List.Splits.{slice_split_first, slice_split_none, length-slice_split}
use Rattle.std.proofs.lemmas.List.Sums.{fails_before_first}
use Rattle.wf_wms.specs.MapRequest.{entries, four_of}

-- without a comma there is one entry
pub only_entry : (text : List ℕ) → position_or_len (λ b. b == 44) text ≡ length text → entries text ≡ text ∷ []
unfolding entries
only_entry text none = slice_split_none (λ b. b == 44) text (λ k d within. fails_before_first (λ b. b == 44) text k d (omega arith))

-- the first entry ends at the first comma
pub first_entry : (text : List ℕ) → position_or_len (λ b. b == 44) text < length text →
    entries text ≡ before_first (λ b. b == 44) text ∷ entries (after_first (λ b. b == 44) text)
unfolding entries
first_entry text some = slice_split_first (λ b. b == 44) text 0 some

-- each list has an entry
pub some_entry : (text : List ℕ) → 0 < length (entries text)
unfolding entries
some_entry text = omega (arith, length-slice_split (λ b. b == 44) text)

over_four : (a b c d : List ℕ) (more : List (List ℕ)) → 0 < length more → four_of (a ∷ b ∷ c ∷ d ∷ more) ≡ None
unfolding four_of
over_four a b c d [] some = absurd (omega arith)
over_four a b c d (e ∷ more) some = refl

pub one_entry : (t : List ℕ) → entries t ≡ t ∷ [] → four_of (entries t) ≡ None
unfolding four_of
one_entry t one = ap four_of one

pub two_entries : (t a u : List ℕ) → entries t ≡ a ∷ entries u → entries u ≡ u ∷ [] → four_of (entries t) ≡ None
unfolding four_of
two_entries t a u first second = ap four_of (first ∙ ap (λ rest. a ∷ rest) second)

pub three_entries : (t a u b v : List ℕ) → entries t ≡ a ∷ entries u → entries u ≡ b ∷ entries v → entries v ≡ v ∷ [] →
    four_of (entries t) ≡ None
unfolding four_of
three_entries t a u b v first second third = ap four_of (first ∙ ap (λ rest. a ∷ rest) (second ∙ ap (λ rest. b ∷ rest) third))

pub four_entries : (t a u b v c w : List ℕ) → entries t ≡ a ∷ entries u → entries u ≡ b ∷ entries v → entries v ≡ c ∷ entries w →
    entries w ≡ w ∷ [] → four_of (entries t) ≡ Some (a, b, c, w)
unfolding four_of
four_entries t a u b v c w first second third fourth =
    ap four_of (first ∙ ap (λ rest. a ∷ rest) (second ∙ ap (λ rest. b ∷ rest) (third ∙ ap (λ rest. c ∷ rest) fourth)))

pub five_entries : (t a u b v c w d x : List ℕ) → entries t ≡ a ∷ entries u → entries u ≡ b ∷ entries v → entries v ≡ c ∷ entries w →
    entries w ≡ d ∷ entries x → four_of (entries t) ≡ None
five_entries t a u b v c w d x first second third fourth =
    ap four_of (first ∙ ap (λ rest. a ∷ rest) (second ∙ ap (λ rest. b ∷ rest) (third ∙ ap (λ rest. c ∷ rest) fourth)))
    ∙ over_four a b c d (entries x) (some_entry x)

-- an index that was found lies in the list
pub found_within : (p : List ℕ → Bool) (names : List (List ℕ)) (found : Option ℕ) → found ≡ position p names → IfSome found (λ i. i < length names)
found_within p names None is = tt
found_within p names (Some i) is = (position-Some p names i [] (sym is)).0
