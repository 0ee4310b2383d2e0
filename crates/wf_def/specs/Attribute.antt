-- The attributes of a feature, and its class.
--
-- The layer's items are the attributes' names between commas; the feature's items are their values
-- between semicolons.
use Rattle.std.specs.Prelude.{ℕ, ◌==◌, Bool, true, false, List, [], ◌∷◌, Option, Some, None, bytes_eq, option_and_then, position}
use Rattle.std.specs.List.{list_any, slice_get, slice_split}
use Rattle.wf_def.specs.Definition.{ExpressionDefinition, FeatureDefinition, LayerDefinition}
use Rattle.wf_def.specs.declared.expression.Expression.TheVariants.{Equals, OneOf}

-- the pieces between commas
abbrev pub between_commas : List ℕ → List (List ℕ)
between_commas bytes = slice_split (λ b. b == 44) bytes

-- the names between commas
abbrev pub attribute_names : List ℕ → List (List ℕ)
attribute_names items = between_commas items

-- the values between semicolons
abbrev pub attribute_values : List ℕ → List (List ℕ)
attribute_values items = slice_split (λ b. b == 59) items

-- the value at the index at which the name first occurs: none under the empty name, and none if
-- there are fewer values
unfoldable pub attribute : List ℕ → List ℕ → List ℕ → Option (List ℕ)
attribute names values [] = None
attribute names values (b ∷ rest) = option_and_then (slice_get (attribute_values values)) (position (bytes_eq (b ∷ rest)) (attribute_names names))

-- a value meets an expression if it equals the text, or one of the list's pieces between commas,
-- byte for byte
abbrev pub meets : ExpressionDefinition → List ℕ → Bool
meets (Equals text) value = bytes_eq text value
meets (OneOf inside) value = list_any (bytes_eq value) (between_commas inside)

-- a feature matches an expression if it has the attribute and its value meets the expression; every
-- feature matches no expression
abbrev pub matches : Option ExpressionDefinition → Option (List ℕ) → Bool
matches None value = true
matches (Some expression) None = false
matches (Some expression) (Some value) = meets expression value

-- the feature's value of the attribute that the layer's classes compare
abbrev pub class_value : LayerDefinition → FeatureDefinition → Option (List ℕ)
class_value layer feature = attribute layer.items feature.items layer.class_item

-- the index of the first class that the feature matches: a feature without one isn't drawn
unfoldable pub class_of : LayerDefinition → FeatureDefinition → Option ℕ
class_of layer feature = position (λ class. matches class.expression (class_value layer feature)) layer.classes
