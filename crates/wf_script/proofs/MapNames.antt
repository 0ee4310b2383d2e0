-- A map is found by its name, or by its definition.
use Rattle.std.proofs.Common.{◌≡◌, ◌∙◌, ℕ, ◌+◌, suc, not, Bool, cond, List, [], ◌∷◌, length, map, nat_lt, slice_get, sym, Some, None, refl, ap}
use Rattle.std.specs.List.{position, prefix_len}
use Rattle.std.specs.Option.{option_and_then, option_map}
use Rattle.std.specs.Prelude.{Option}
use Rattle.std.specs.Str.{bytes_eq}
use Rattle.std.proofs.lemmas.Option.{slice_get-map}
use Rattle.wf_def.specs.Definition.{Definition}
use Rattle.wf_def.specs.Equality.{definition_eq}
use Rattle.wf_script.specs.Script.{name, definition, index_with}
use Rattle.wf_script.specs.Orders.{index_of}
use Rattle.wf_script.specs.declared.maps.Named as maps

module _ {X Y : Type 0} (view : X → Y) (test : Y → Bool) where
  none_yet : (xs : List X) → prefix_len (λ x. not (test (view x))) xs ≡ prefix_len (λ y. not (test y)) (map view xs)
  none_yet [] = refl
  none_yet (x ∷ xs) = ap (λ n. cond (not (test (view x))) (1 + n) 0) (none_yet xs)

  as_many : (xs : List X) → length xs ≡ length (map view xs)
  as_many [] = refl
  as_many (x ∷ xs) = ap (λ n. suc n) (as_many xs)

  -- the first that passes is the first whose view does
  first_viewed : (xs : List X) → position (λ x. test (view x)) xs ≡ position test (map view xs)
  first_viewed xs =
      ap (λ n. cond (nat_lt n (length xs)) (Some n) None) (none_yet xs)
      ∙ ap (λ n. cond (nat_lt (prefix_len (λ y. not (test y)) (map view xs)) n) (Some (prefix_len (λ y. not (test y)) (map view xs))) None) (as_many xs)

pub found_by_name : (named : List maps.Named) (word : List ℕ) → position (λ m. bytes_eq (name m) word) named ≡ index_of (map name named) word
found_by_name named word = first_viewed name (λ other. bytes_eq other word) named

pub found_by_meaning : (named : List maps.Named) (d : Definition) → position (λ m. definition_eq (definition m) d) named ≡ index_with (map definition named) d
found_by_meaning named d = first_viewed definition (λ other. definition_eq other d) named

-- its name is the one at its index
pub named_there : (named : List maps.Named) (d : Definition) (found : Option ℕ) → found ≡ position (λ m. definition_eq (definition m) d) named
    → option_map name (option_and_then (slice_get named) found) ≡ option_and_then (slice_get (map name named)) (index_with (map definition named) d)
named_there named d found is =
    there found ∙ ap (option_and_then (slice_get (map name named))) (is ∙ found_by_meaning named d)
  where
    there : (index : Option ℕ) → option_map name (option_and_then (slice_get named) index) ≡ option_and_then (slice_get (map name named)) index
    there None = refl
    there (Some k) = sym (slice_get-map name named k)
