-- Which texts are layer names.
use Rattle.std.proofs.Common.{◌≡◌, ℕ, Bool, true, not, List, length, ap, false, refl}
use Rattle.std.specs.Prelude.{IsTrue, ◌↔◌}
use Rattle.std.specs.Cmp.{first_so, second_so}
use Rattle.std.proofs.lemmas.Bool.{leb-true, le-leb}
use Rattle.std.proofs.lemmas.Bool.Decides.{same_from_decides}
use Rattle.wf_def.specs.Text.{IsText}
use Rattle.wf_def.specs.Limits.{IsLayerName}
use Rattle.wf_feature.specs.Layers.{is_layer_name}
use Rattle.std.proofs.lemmas.Bool.{and_from}

-- Tests that are negated.
pub not_true : (a : Bool) → not a ≡ true → a ≡ false
not_true false e = refl
not_true true e = absurd (let impossible : ⊥ = cc in impossible)

pub named : (name : List ℕ) → IsLayerName name → is_layer_name name ≡ true
unfolding is_layer_name
named name is = and_from _ _ (le-leb 1 (length name) is.least) (ap not is.no_comma)

pub is_name : (name : List ℕ) → IsText name → is_layer_name name ≡ true → IsLayerName name
unfolding is_layer_name
is_name name text so = record {
  is_text = text;
  least = leb-true 1 (length name) (first_so _ _ so);
  no_comma = not_true _ (second_so _ _ so);
}

pub tested : (name : List ℕ) (r : Bool) → IsText name → (IsTrue r ↔ IsLayerName name) → r ≡ is_layer_name name
tested name r text decides = same_from_decides r (is_layer_name name) decides (is_name name text, named name)
