-- The fields of a name and their values.
use Rattle.std.proofs.Common.{◌≡◌, ◌∙◌, ◌+◌, ◌<◌, ◌≤◌, length, drop, get_or, ℕ, Bool, true, false, ◌&&◌, not, List, [], ◌∷◌, map, refl, sym}
use Rattle.std.specs.Prelude.{Some, None, option_map, find, is_some}
use Rattle.std.specs.List.{list_all}
use Rattle.std.proofs.lemmas.List.{at_drop_more, at_drop_all}
use Rattle.wf_http.specs.Fields.{is_named, values, first_of}

-- ---- a search from the first field to the last

module _ {S : Type 0} (p : List ℕ × List ℕ → Bool) (view : S → List ℕ × List ℕ) (spans : List S) (i : ℕ) where
  -- the one is found
  pub met : (d : S) → i < length spans → p (view (get_or spans i d)) ≡ true → find p (map view (drop i spans)) ≡ Some (view (get_or spans i d))
  met d within is = at_drop_more (λ rest. find p (map view rest)) spans i d within ∙ rw is refl

  -- another is skipped
  pub passed : (d : S) → i < length spans → p (view (get_or spans i d)) ≡ false → find p (map view (drop (i + 1) spans)) ≡ find p (map view (drop i spans))
  passed d within is = sym (at_drop_more (λ rest. find p (map view rest)) spans i d within ∙ rw is refl)

  -- at the end none is left
  pub ended : length spans ≤ i → find p (map view (drop i spans)) ≡ None
  ended past = at_drop_all (λ rest. find p (map view rest)) spans i past

-- ---- the values of a name

module _ (name : List ℕ) where
  first_step : (field : List ℕ × List ℕ) (fields : List (List ℕ × List ℕ)) (named : Bool) → is_named name field ≡ named
      → option_map (λ f. f.1) (find (is_named name) fields) ≡ first_of (values name fields)
      → option_map (λ f. f.1) (find (is_named name) (field ∷ fields)) ≡ first_of (values name (field ∷ fields))
  first_step field fields true is more = rw is refl
  first_step field fields false is more = rw is more

  -- the first value of the name is that of its first field
  pub first_value : (fields : List (List ℕ × List ℕ)) → option_map (λ f. f.1) (find (is_named name) fields) ≡ first_of (values name fields)
  first_value [] = refl
  first_value (field ∷ fields) = first_step field fields (is_named name field) refl (first_value fields)

  all_step : (test : List ℕ → Bool) (field : List ℕ × List ℕ) (fields : List (List ℕ × List ℕ)) (named passes : Bool) → is_named name field ≡ named
      → test field.1 ≡ passes
      → not (is_some (find (λ f. is_named name f && not (test f.1)) fields)) ≡ list_all test (values name fields)
      → not (is_some (find (λ f. is_named name f && not (test f.1)) (field ∷ fields))) ≡ list_all test (values name (field ∷ fields))
  all_step test field fields true true is passes more = rw (is, passes) more
  all_step test field fields true false is passes more = rw (is, passes) refl
  all_step test field fields false passed is passes more = rw is more

  -- each value of the name passes a test if no field of the name fails it
  pub all_values : (test : List ℕ → Bool) (fields : List (List ℕ × List ℕ))
      → not (is_some (find (λ f. is_named name f && not (test f.1)) fields)) ≡ list_all test (values name fields)
  all_values test [] = refl
  all_values test (field ∷ fields) = all_step test field fields (is_named name field) (test field.1) refl refl (all_values test fields)
