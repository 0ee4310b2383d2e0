-- The index of a layer of a name in a map.
use Rattle.std.proofs.Common.{◌≡◌, ◌∙◌, ap, sym, ℕ, ◌+◌, ◌<◌, Bool, true, false, List, [], ◌∷◌, ◌++◌, length, get_or, take, refl, arith, below_more, bytes_eq}
use Rattle.std.specs.Prelude.{Option, Some, None, IfSome, is_none, option_map}
use Rattle.std.specs.List.{All, cons_option, filter_map, position, position_or_len, slice_get}
use Rattle.std.proofs.lemmas.Bool.Decides.{nat_tests}
use Rattle.std.proofs.lemmas.List.{length-map, take_more}
use Rattle.std.proofs.lemmas.List.Elements.{All-cons, All-nil, filter_map-append}
use Rattle.std.proofs.lemmas.List.Sums.{position_or_len_is}
use Rattle.std.proofs.lemmas.Option.{IfSome_then, slice_get-map, slice_get_within, get_or_from_slice_get}
use Rattle.wf_def.specs.Definition.{Definition, LayerDefinition}
use Rattle.wf_def.specs.Limits.{layer_names}
use Rattle.wf_wms.specs.MapRequest.{layer_of}
use Rattle.wf_wms.proofs.EntriesTheorem.{found_within}

-- the first that passes, or none
pub found_at : (p : List ℕ → Bool) (names : List (List ℕ)) (i : ℕ) → i < length names → ((k : ℕ) → k < i → p (get_or names k []) ≡ false) →
    p (get_or names i []) ≡ true → position p names ≡ Some i
found_at p names i within before here =
    let at : position_or_len p names ≡ i = position_or_len_is p names i [] (omega arith) before (λ _. here) in
    rw at (grind (arith, nat_tests))

pub found_nowhere : (p : List ℕ → Bool) (names : List (List ℕ)) → ((k : ℕ) → k < length names → p (get_or names k []) ≡ false) →
    position p names ≡ None
found_nowhere p names before =
    let at : position_or_len p names ≡ length names = position_or_len_is p names (length names) [] (omega arith) before (λ past. absurd (omega arith)) in
    rw at (grind (arith, nat_tests))

-- the name of a layer
name_at : (layers : List (List ℕ × LayerDefinition)) (i : ℕ) (name : List ℕ) (layer : LayerDefinition) → slice_get layers i ≡ Some (name, layer) →
    get_or (layer_names layers) i [] ≡ name
name_at layers i name layer here =
    get_or_from_slice_get (layer_names layers) i name [] (slice_get-map (λ entry. entry.0) layers i ∙ ap (option_map (λ (entry : List ℕ × LayerDefinition). entry.0)) here)

pub layer_found : (d : Definition) (name given : List ℕ) (layer : LayerDefinition) (i : ℕ) → slice_get d.layers i ≡ Some (given, layer) →
    ((k : ℕ) → k < i → bytes_eq name (get_or (layer_names d.layers) k []) ≡ false) → bytes_eq name given ≡ true → layer_of d name ≡ Some i
unfolding layer_of
layer_found d name given layer i here before same =
    found_at (bytes_eq name) (layer_names d.layers) i (slice_get_within _ i given (slice_get-map (λ entry. entry.0) d.layers i ∙ ap (option_map (λ (entry : List ℕ × LayerDefinition). entry.0)) here)) before
    (ap (bytes_eq name) (name_at d.layers i given layer here) ∙ same)

pub layer_not_found : (d : Definition) (name : List ℕ) → ((k : ℕ) → k < length d.layers → bytes_eq name (get_or (layer_names d.layers) k []) ≡ false) →
    layer_of d name ≡ None
unfolding layer_of
layer_not_found d name before =
    found_nowhere (bytes_eq name) (layer_names d.layers) (λ k within. before k (rw (length-map d.layers (λ entry. entry.0)) at within))

-- the next name isn't it either
pub passed_over : (d : Definition) (name given : List ℕ) (layer : LayerDefinition) (i : ℕ) → slice_get d.layers i ≡ Some (given, layer) →
    ((k : ℕ) → k < i → bytes_eq name (get_or (layer_names d.layers) k []) ≡ false) → bytes_eq name given ≡ false →
    (k : ℕ) → k < i + 1 → bytes_eq name (get_or (layer_names d.layers) k []) ≡ false
passed_over d name given layer i here before other = below_more _ _ before (ap (bytes_eq name) (name_at d.layers i given layer here) ∙ other)

-- the index is that of a layer
layer_within : (d : Definition) (name : List ℕ) → IfSome (layer_of d name) (λ index. index < length d.layers)
unfolding layer_of
layer_within d name =
    IfSome_then (layer_of d name) (found_within (bytes_eq name) (layer_names d.layers) (layer_of d name) refl)
    (λ index within. rw (length-map d.layers (λ entry. entry.0)) at within)

one_more_within : (most : ℕ) (found : Option ℕ) (indices : List ℕ) → IfSome found (λ index. index < most) → All (λ index. index < most) indices →
    All (λ index. index < most) (cons_option found indices)
one_more_within most None indices here others = others
one_more_within most (Some index) indices here others = All-cons (λ p. p < most) index indices here others

pub layers_within : (d : Definition) (names : List (List ℕ)) → All (λ index. index < length d.layers) (filter_map (layer_of d) names)
layers_within d [] = All-nil (λ index. index < length d.layers)
layers_within d (name ∷ names) =
    one_more_within (length d.layers) (layer_of d name) (filter_map (layer_of d) names) (layer_within d name) (layers_within d names)

-- the next name is a layer's
pub one_more_index : (d : Definition) (names : List (List ℕ)) (n index : ℕ) (name : List ℕ) (old new : List ℕ) → n < length names → get_or names n [] ≡ name →
    layer_of d name ≡ Some index → old ≡ filter_map (layer_of d) (take n names) → new ≡ old ++ index ∷ [] → new ≡ filter_map (layer_of d) (take (n + 1) names)
one_more_index d names n index name old new within is found so_far written =
    let one : filter_map (layer_of d) (get_or names n [] ∷ []) ≡ index ∷ [] = ap (λ (o : Option ℕ). cons_option o []) (ap (layer_of d) is ∙ found) in
    written
    ∙ ap (λ (l : List ℕ). l ++ index ∷ []) so_far
    ∙ ap (λ (l : List ℕ). filter_map (layer_of d) (take n names) ++ l) (sym one)
    ∙ sym (filter_map-append (layer_of d) (take n names) (get_or names n [] ∷ []))
    ∙ ap (filter_map (layer_of d)) (sym (take_more names n [] within))

-- and none of the names up to it is unknown
pub one_more_known : (d : Definition) (names : List (List ℕ)) (n index : ℕ) (name : List ℕ) → get_or names n [] ≡ name → layer_of d name ≡ Some index →
    ((k : ℕ) → k < n → is_none (layer_of d (get_or names k [])) ≡ false) → (k : ℕ) → k < n + 1 → is_none (layer_of d (get_or names k [])) ≡ false
one_more_known d names n index name is found before = below_more _ _ before (ap (λ (o : Option ℕ). is_none o) (ap (layer_of d) is ∙ found))

-- the next name isn't a layer's
pub unknown_at : (d : Definition) (names : List (List ℕ)) (n : ℕ) (name : List ℕ) → n < length names → get_or names n [] ≡ name → layer_of d name ≡ None →
    ((k : ℕ) → k < n → is_none (layer_of d (get_or names k [])) ≡ false) → position (λ name. is_none (layer_of d name)) names ≡ Some n
unknown_at d names n name within is unknown before =
    found_at (λ name. is_none (layer_of d name)) names n within before (ap (λ (o : Option ℕ). is_none o) (ap (layer_of d) is ∙ unknown))
