-- The map of the first record that publishes one, from an index on.
use Rattle.std.proofs.Common.{◌≡◌, ◌∙◌, ◌+◌, ◌<◌, ℕ, suc, List, length, map, drop, get_or, sym, ap, arith}
use Rattle.std.proofs.Math.Seq.{drop-cons}
use Rattle.std.specs.Prelude.{Some, None}
use Rattle.wf_def.specs.Definition.{Definition}
use Rattle.wf_model.specs.DurableState.{Record}
use Rattle.wf_listing.specs.Map.{first_or, published_by, published_in}

module _ {A : Type 0} (view : A → Record Definition) (sequence : ℕ) (xs : List A) (i : ℕ) (x : A) (within : i < length xs) (is : x ≡ get_or xs i x) where
  -- it is that of the record at the index, or of those behind it
  pub split : published_in sequence (map view (drop i xs)) ≡ first_or (published_by sequence (view x)) (published_in sequence (map view (drop (i + 1) xs)))
  unfolding published_in
  split = ap (λ ys. published_in sequence (map view ys)) (drop-cons xs i x within)
      ∙ ap (λ y. first_or (published_by sequence (view y)) (published_in sequence (map view (drop (suc i) xs)))) (sym is)
      ∙ ap (λ (k : ℕ). first_or (published_by sequence (view x)) (published_in sequence (map view (drop k xs)))) (let next : suc i ≡ i + 1 = omega arith in next)

  -- the record at the index publishes it
  pub found : (d : Definition) → Some d ≡ published_by sequence (view x) → published_in sequence (map view (drop i xs)) ≡ Some d
  found d here = split ∙ ap (λ o. first_or o (published_in sequence (map view (drop (i + 1) xs)))) (sym here)

  -- it doesn't
  pub behind : None ≡ published_by sequence (view x) → published_in sequence (map view (drop i xs)) ≡ published_in sequence (map view (drop (i + 1) xs))
  behind here = split ∙ ap (λ o. first_or o (published_in sequence (map view (drop (i + 1) xs)))) (sym here)
