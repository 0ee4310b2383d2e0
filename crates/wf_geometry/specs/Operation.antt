-- The operations that paint a map, in painter's order, and the colour of a pixel.
use Rattle.std.specs.Prelude.{ℕ, Bool, List, [], ◌∷◌, ◌++◌, reverse, Option, Some, None, ℤ, slice_get}
use Rattle.std.specs.List.{find, flat_map}
use Rattle.wf_def.specs.Definition.{Definition, LayerDefinition, ClassDefinition, StyleDefinition, FeatureDefinition}
use Rattle.wf_def.specs.Attribute.{class_of}
use Rattle.wf_def.specs.declared.color.Color.{Color}
use Rattle.wf_def.specs.declared.point.Point.{Point}
use Rattle.wf_def.specs.declared.choice.LayerKind.{LayerKind}
use Rattle.wf_def.specs.declared.choice.LayerKind.TheVariants.{Points, Lines, Polygons}
use Rattle.wf_geometry.specs.Position.{PositionValue, centre}
use Rattle.wf_geometry.specs.Coverage.{is_inside, is_on_any}
use Rattle.wf_geometry.specs.Square.{is_in_square}
use Rattle.wf_geometry.specs.View.{ViewValue, position_of}
use Rattle.wf_geometry.specs.Segments.{paths, rings}
use Rattle.wf_geometry.specs.declared.operation.Segment.{Segment}
use Rattle.wf_geometry.specs.declared.operation.Shape.{Shape}
use Rattle.wf_geometry.specs.declared.operation.Shape.TheVariants.{Fill, Line, Square}
use Rattle.wf_geometry.specs.declared.operation.Operation.{Operation}

-- the inside of edges, lines of a width along segments, a square of a size about a position; width
-- and size in pixels
pub data ShapeValue : Type 0 where
  FillOf : List Segment → ShapeValue
  LineOf : ℕ → List Segment → ShapeValue
  SquareOf : ℕ → PositionValue → ShapeValue

-- a shape in a colour
pub record OperationValue : Type 0 where
  pub shape : ShapeValue
  pub color : Color

-- the model values of the code's values
abbrev pub shape_value : Shape → ShapeValue
shape_value (Fill edges) = FillOf edges.now
shape_value (Line width segments) = LineOf width segments.now
shape_value (Square size position) = SquareOf size position

abbrev pub operation_value : Operation → OperationValue
operation_value op = record { shape = shape_value op.shape; color = op.color }

-- ---- coverage

-- the shape covers the pixel in the column and row; rows count from the bottom
abbrev pub shape_covers : ShapeValue → ℤ → ℤ → Bool
shape_covers (FillOf edges) column row = is_inside (centre column row) edges
shape_covers (LineOf width segments) column row = is_on_any width (centre column row) segments
shape_covers (SquareOf size position) column row = is_in_square size position column row

unfoldable pub covers : OperationValue → ℤ → ℤ → Bool
covers op column row = shape_covers op.shape column row

-- ---- colour

abbrev pub color_or : Color → Option OperationValue → Color
color_or background None = background
color_or background (Some op) = op.color

-- the colour of the last operation that covers the pixel, else the background
unfoldable pub color_at : List OperationValue → Color → ℤ → ℤ → Color
color_at ops background column row = color_or background (find (λ op. covers op column row) (reverse ops))

-- ---- operations, in painter's order

-- the shape in a colour; nothing without one
abbrev pub in_color : ShapeValue → Option Color → List OperationValue
in_color shape None = []
in_color shape (Some color) = record { shape = shape; color = color } ∷ []

-- a square for each point
unfoldable pub part_squares : ViewValue → StyleDefinition → List Point → List OperationValue
part_squares view style points = flat_map (λ point. in_color (SquareOf style.size (position_of view point)) style.color) points

unfoldable pub squares : ViewValue → StyleDefinition → List (List Point) → List OperationValue
squares view style parts = flat_map (part_squares view style) parts

-- the inside in the colour, then the border in the outline's colour
unfoldable pub polygon : ViewValue → StyleDefinition → List (List Point) → List OperationValue
polygon view style parts =
    in_color (FillOf (rings view parts)) style.color ++ in_color (LineOf style.width (rings view parts)) style.outline_color

unfoldable pub line : ViewValue → StyleDefinition → List (List Point) → List OperationValue
line view style parts = in_color (LineOf style.width (paths view parts)) style.color

abbrev pub style_operations : ViewValue → LayerKind → List (List Point) → StyleDefinition → List OperationValue
style_operations view Points parts style = squares view style parts
style_operations view Lines parts style = line view style parts
style_operations view Polygons parts style = polygon view style parts

-- the styles of the class in order, each over those before it
abbrev pub class_operations : ViewValue → LayerKind → List (List Point) → Option ClassDefinition → List OperationValue
class_operations view kind parts None = []
class_operations view kind parts (Some class) = flat_map (style_operations view kind parts) class.styles

-- the class of a feature; a feature without one isn't drawn
abbrev pub class_at : LayerDefinition → Option ℕ → Option ClassDefinition
class_at layer None = None
class_at layer (Some i) = slice_get layer.classes i

unfoldable pub feature_operations : ViewValue → LayerDefinition → FeatureDefinition → List OperationValue
feature_operations view layer feature = class_operations view layer.kind feature.parts (class_at layer (class_of layer feature))

-- the features in order
unfoldable pub layer_operations : ViewValue → LayerDefinition → List OperationValue
layer_operations view layer = flat_map (feature_operations view layer) layer.features

abbrev pub entry_operations : ViewValue → Option (List ℕ × LayerDefinition) → List OperationValue
entry_operations view None = []
entry_operations view (Some entry) = layer_operations view entry.1

-- the requested layers from left to right, each given by its index in the map
unfoldable pub operations : Definition → List ℕ → ViewValue → List OperationValue
operations map layers view = flat_map (λ i. entry_operations view (slice_get map.layers i)) layers
