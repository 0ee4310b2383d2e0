-- The test of equality of two definitions: all their fields are equal. Lists are compared in order,
-- those of layers too.
use Rattle.std.specs.Prelude.{ℕ, ◌==◌, ◌&&◌, Bool, false, List, bytes_eq}
use Rattle.std.specs.Ordering.{int_eq}
use Rattle.std.specs.Option.{option_eq}
use Rattle.std.specs.Cmp.Lexicographic.{pointwise}
use mathlib.Core.Bool.{beq}
use denote.Enum.Bare.{sameb}
use Rattle.wf_def.specs.Extent.{ExtentValue}
use Rattle.wf_def.specs.Definition.{Definition, LayerDefinition, ClassDefinition, ExpressionDefinition, StyleDefinition, LabelDefinition, FeatureDefinition}
use Rattle.wf_def.specs.declared.color.Color.{Color}
use Rattle.wf_def.specs.declared.point.Point.{Point}
use Rattle.wf_def.specs.declared.expression.Expression.TheVariants.{Equals, OneOf}
use Rattle.wf_def.specs.contracts.choice.Projection.{the_type as projections}
use Rattle.wf_def.specs.contracts.choice.LayerKind.{the_type as layer_kinds}
use Rattle.wf_def.specs.contracts.choice.LabelSize.{the_type as label_sizes}
use Rattle.wf_def.specs.contracts.choice.LabelPosition.{the_type as label_positions}

abbrev pub color_eq : Color → Color → Bool
color_eq a b = a.r == b.r && (a.g == b.g && a.b == b.b)

abbrev pub point_eq : Point → Point → Bool
point_eq a b = int_eq a.x b.x && int_eq a.y b.y

abbrev pub extent_eq : ExtentValue → ExtentValue → Bool
extent_eq a b = int_eq a.minx b.minx && (int_eq a.miny b.miny && (int_eq a.maxx b.maxx && int_eq a.maxy b.maxy))

abbrev pub style_eq : StyleDefinition → StyleDefinition → Bool
style_eq a b = option_eq color_eq a.color b.color && (option_eq color_eq a.outline_color b.outline_color && (a.width == b.width && a.size == b.size))

abbrev pub label_eq : LabelDefinition → LabelDefinition → Bool
label_eq a b = color_eq a.color b.color && (sameb label_sizes a.size b.size && (sameb label_positions a.position b.position
    && (a.priority == b.priority && (beq a.force b.force && a.buffer == b.buffer))))

abbrev pub expression_eq : ExpressionDefinition → ExpressionDefinition → Bool
expression_eq (Equals a) (Equals b) = bytes_eq a b
expression_eq (Equals a) (OneOf b) = false
expression_eq (OneOf a) (Equals b) = false
expression_eq (OneOf a) (OneOf b) = bytes_eq a b

unfoldable pub class_eq : ClassDefinition → ClassDefinition → Bool
class_eq a b = bytes_eq a.name b.name && option_eq expression_eq a.expression b.expression && pointwise style_eq a.styles b.styles
    && option_eq label_eq a.label b.label

unfoldable pub feature_eq : FeatureDefinition → FeatureDefinition → Bool
feature_eq a b = pointwise (pointwise point_eq) a.parts b.parts && bytes_eq a.items b.items && bytes_eq a.text b.text

unfoldable pub layer_eq : LayerDefinition → LayerDefinition → Bool
layer_eq a b = sameb layer_kinds a.kind b.kind && bytes_eq a.title b.title && bytes_eq a.class_item b.class_item
    && bytes_eq a.label_item b.label_item && bytes_eq a.items b.items && pointwise class_eq a.classes b.classes
    && pointwise feature_eq a.features b.features

-- a layer with its name
abbrev pub entry_eq : (List ℕ × LayerDefinition) → (List ℕ × LayerDefinition) → Bool
entry_eq a b = bytes_eq a.0 b.0 && layer_eq a.1 b.1

unfoldable pub definition_eq : Definition → Definition → Bool
definition_eq a b = bytes_eq a.name b.name && bytes_eq a.title b.title && bytes_eq a.abstract_text b.abstract_text
    && bytes_eq a.address b.address && extent_eq a.extent b.extent && sameb projections a.projection b.projection
    && pointwise entry_eq a.layers b.layers
