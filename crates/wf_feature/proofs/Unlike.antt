-- Layers of distinct names.
use Rattle.std.proofs.Common.{◌≡◌, ℕ, Bool, true, false, ◌||◌, List, [], ◌∷◌, ◌++◌, refl, sym, ap, ◌∙◌}
use Rattle.std.specs.Cmp.{first_so, second_so}
use Rattle.std.specs.Prelude.{bytes_eq}
use Rattle.std.proofs.lemmas.Slice.Eq.{bytes_eq-Decides}
use Rattle.std.proofs.lemmas.Bool.Decides.{same_from_decides, Decides-like}
use Rattle.wf_def.specs.Definition.{LayerDefinition}
use Rattle.wf_def.specs.Limits.{has_layer, layer_names}
use Rattle.wf_block.specs.Grammar.{all_differ}
use Rattle.std.proofs.lemmas.Bool.{or_parts}
use Rattle.wf_feature.proofs.LayerNames.{not_true}

abbrev pub Entry : Type 0
Entry = List ℕ × LayerDefinition

bytes_eq-comm : (a b : List ℕ) → bytes_eq a b ≡ bytes_eq b a
bytes_eq-comm a b = same_from_decides (bytes_eq a b) (bytes_eq b a) (bytes_eq-Decides a b) (Decides-like (bytes_eq b a) sym sym (bytes_eq-Decides b a))

-- one more layer is one more name that is taken
taken_by : (a b c : Bool) → (a || (b || c)) ≡ (b || (a || c))
taken_by true true c = refl
taken_by true false c = refl
taken_by false true c = refl
taken_by false false c = refl

pub has_layer-more : (layers : List Entry) (x : Entry) (name : List ℕ) → has_layer (layers ++ x ∷ []) name ≡ (bytes_eq x.0 name || has_layer layers name)
has_layer-more [] x name = ap (λ same. same || false) (bytes_eq-comm name x.0)
has_layer-more (y ∷ layers) x name = ap (λ more. bytes_eq name y.0 || more) (has_layer-more layers x name) ∙ taken_by (bytes_eq name y.0) (bytes_eq x.0 name) (has_layer layers name)

-- with one more layer, whose name is new, the names are still distinct
pub differ-push : (layers : List Entry) (x : Entry) → all_differ (layer_names layers) ≡ true → has_layer layers x.0 ≡ false → all_differ (layer_names (layers ++ x ∷ [])) ≡ true
unfolding all_differ
differ-push [] x differ new = refl
differ-push (y ∷ layers) x differ new =
    let parts = or_parts (bytes_eq x.0 y.0) (has_layer layers x.0) new in
    let once : has_layer layers y.0 ≡ false = not_true _ (first_so _ _ differ) in
    rw (has_layer-more layers x y.0, parts.0, once) (differ-push layers x (second_so _ _ differ) parts.1)

-- none of the layers before one has its name
other_name : (name : List ℕ) (before : List Entry) (x : Entry) (rest : List Entry) → has_layer (before ++ x ∷ rest) name ≡ false → bytes_eq name x.0 ≡ false
other_name name [] x rest none = (or_parts (bytes_eq name x.0) (has_layer rest name) none).0
other_name name (y ∷ before) x rest none = other_name name before x rest (or_parts (bytes_eq name y.0) (has_layer (before ++ x ∷ rest) name) none).1

pub differ-in : (before : List Entry) (x : Entry) (rest : List Entry) → all_differ (layer_names (before ++ x ∷ rest)) ≡ true → has_layer before x.0 ≡ false
unfolding all_differ
differ-in [] x rest differ = refl
differ-in (y ∷ before) x rest differ =
    rw (bytes_eq-comm x.0 y.0, other_name y.0 before x rest (not_true _ (first_so _ _ differ))) (differ-in before x rest (second_so _ _ differ))
