-- Which definitions are within the limits: one predicate for each level.
use Rattle.std.specs.Prelude.{◌≡◌, ℕ, ◌<◌, ◌≤◌, ◌==◌, Bool, true, false, List, length, map, All, IfSome, sum_by, bytes_eq}
use Rattle.std.specs.List.{list_any, IsDistinct}
use Rattle.wf_text.specs.Number.{IsMicro}
use Rattle.wf_def.specs.Extent.{IsExtent}
use Rattle.wf_text.specs.Text.{IsText}
use Rattle.wf_text.specs.ValueList.{IsValueList}
use Rattle.wf_def.specs.Definition.{Definition, LayerDefinition, ClassDefinition, ExpressionDefinition, StyleDefinition, LabelDefinition, FeatureDefinition}
use Rattle.wf_def.specs.declared.fault.LayerFault.{LayerFault}
use Rattle.wf_def.specs.declared.fault.LayerFault.TheVariants.{OutOfMemory, Repeated}
use Rattle.wf_def.specs.declared.color.Color.{Color}
use Rattle.wf_def.specs.declared.point.Point.{Point}
use Rattle.wf_def.specs.declared.expression.Expression.TheVariants.{Equals, OneOf}
use Rattle.wf_def.specs.declared.choice.LayerKind.{LayerKind}
use Rattle.wf_def.specs.declared.choice.LayerKind.TheVariants.{Points, Lines, Polygons}
use Rattle.wf_def.specs.Limit.{most_items_bytes, most_layers, most_classes, most_styles, most_features, most_points, most_width, most_size, most_priority, most_buffer}

pub record IsColor (c : Color) : Type 0 where
  pub r : c.r < 256
  pub g : c.g < 256
  pub b : c.b < 256

pub record IsPoint (p : Point) : Type 0 where
  pub x : IsMicro p.x
  pub y : IsMicro p.y

-- widths and sizes in pixels
pub record IsStyle (s : StyleDefinition) : Type 0 where
  pub color : IfSome s.color IsColor
  pub outline_color : IfSome s.outline_color IsColor
  pub width_least : 1 ≤ s.width
  pub width_most : s.width ≤ most_width
  pub size_least : 1 ≤ s.size
  pub size_most : s.size ≤ most_size

pub record IsLabel (l : LabelDefinition) : Type 0 where
  pub color : IsColor l.color
  pub priority_least : 1 ≤ l.priority
  pub priority_most : l.priority ≤ most_priority
  pub buffer_most : l.buffer ≤ most_buffer

-- a text, or the inside of a list
abbrev pub IsExpression : ExpressionDefinition → Type 0
IsExpression (Equals text) = IsText text
IsExpression (OneOf inside) = IsValueList inside

pub record IsClass (c : ClassDefinition) : Type 0 where
  pub name : IsText c.name
  pub expression : IfSome c.expression IsExpression
  pub styles_most : length c.styles ≤ most_styles
  pub styles : All IsStyle c.styles
  pub label : IfSome c.label IsLabel

abbrev pub IsPart : List Point → Type 0
IsPart part = All IsPoint part

abbrev pub IsParts : List (List Point) → Type 0
IsParts parts = All IsPart parts

-- there is a part
pub record IsFeature (f : FeatureDefinition) : Type 0 where
  pub parts_least : 1 ≤ length f.parts
  pub parts : IsParts f.parts
  pub items : IsText f.items
  pub text : IsText f.text

-- the least number of points of a part: a ring needs three
abbrev pub least_points : LayerKind → ℕ
least_points Points = 1
least_points Lines = 2
least_points Polygons = 3

-- each part has the points that the kind needs
abbrev pub HasEnoughPoints : LayerKind → FeatureDefinition → Type 0
HasEnoughPoints kind f = All (λ part. least_points kind ≤ length part) f.parts

pub record IsLayer (l : LayerDefinition) : Type 0 where
  pub title : IsText l.title
  pub class_item : IsText l.class_item
  pub label_item : IsText l.label_item
  pub items : IsText l.items
  pub items_most : length l.items ≤ most_items_bytes
  pub classes_most : length l.classes ≤ most_classes
  pub classes : All IsClass l.classes
  pub features : All IsFeature l.features
  pub shapes : All (HasEnoughPoints l.kind) l.features

-- a layer's name, which is listed between commas: it isn't empty and has no comma
pub record IsLayerName (name : List ℕ) : Type 0 where
  pub is_text : IsText name
  pub least : 1 ≤ length name
  pub no_comma : list_any (λ b. b == 44) name ≡ false

-- the number of points of a feature, in all its parts
abbrev pub points_of_feature : FeatureDefinition → ℕ
points_of_feature f = sum_by length f.parts

-- the number of points of a layer, in all its features
abbrev pub points_of_layer : LayerDefinition → ℕ
points_of_layer layer = sum_by points_of_feature layer.features

-- the number of features and of points of a map, in all its layers
abbrev pub feature_count : List (List ℕ × LayerDefinition) → ℕ
feature_count layers = sum_by (λ entry. length entry.1.features) layers

abbrev pub point_count : List (List ℕ × LayerDefinition) → ℕ
point_count layers = sum_by (λ entry. points_of_layer entry.1) layers

-- the layers' names, in order
abbrev pub layer_names : List (List ℕ × LayerDefinition) → List (List ℕ)
layer_names layers = map (λ entry. entry.0) layers

pub record IsWithinLimits (m : Definition) : Type 0 where
  pub name : IsText m.name
  pub title : IsText m.title
  pub abstract_text : IsText m.abstract_text
  pub address : IsText m.address
  pub extent : IsExtent m.extent
  pub layers_most : length m.layers ≤ most_layers
  pub names : All (λ entry. IsLayerName entry.0) m.layers
  pub layers : All (λ entry. IsLayer entry.1) m.layers
  pub unlike_names : IsDistinct bytes_eq (layer_names m.layers)
  pub features_most : feature_count m.layers ≤ most_features
  pub points_most : point_count m.layers ≤ most_points

-- there is a layer of that name
abbrev pub has_layer : List (List ℕ × LayerDefinition) → List ℕ → Bool
has_layer layers name = list_any (bytes_eq name) (layer_names layers)

-- the error is a repeated name
abbrev pub is_repeated : LayerFault → Bool
is_repeated Repeated = true
is_repeated OutOfMemory = false
