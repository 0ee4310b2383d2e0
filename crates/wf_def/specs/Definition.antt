-- Map definitions as plain values: coordinates in millionths, texts as bytes, lists in order.
use Rattle.std.specs.Prelude.{ℕ, pos, List, [], Option, codes}
use Rattle.wf_def.specs.Extent.{ExtentValue}
use Rattle.wf_def.specs.declared.point.Point.{Point}
use Rattle.wf_def.specs.declared.style.Style.{Style}
use Rattle.wf_def.specs.declared.label.Label.{Label}
use Rattle.wf_def.specs.declared.expression.Expression.{Expression}
use Rattle.wf_def.specs.declared.choice.Projection.{Projection}
use Rattle.wf_def.specs.declared.choice.Projection.TheVariants.{Epsg4326}
use Rattle.wf_def.specs.declared.choice.LayerKind.{LayerKind}

-- how a feature and its label are drawn: plain values, so the declared types are their own
-- definitions
abbrev pub StyleDefinition : Type 0
StyleDefinition = Style

abbrev pub LabelDefinition : Type 0
LabelDefinition = Label

-- which value of its attribute puts a feature into a class: a text, or the inside of a list whose
-- values are between commas
abbrev pub ExpressionDefinition : Type 0
ExpressionDefinition = Expression

-- a class: which features it contains, and how they are drawn
pub record ClassDefinition : Type 0 where
  pub name : List ℕ
  pub expression : Option ExpressionDefinition
  pub styles : List StyleDefinition
  pub label : Option LabelDefinition

-- a shape with its attributes' values, separated by semicolons, and the text of its label
pub record FeatureDefinition : Type 0 where
  pub parts : List (List Point)
  pub items : List ℕ
  pub text : List ℕ

-- a layer without its name; `items` are the names of its features' attributes, separated by commas
pub record LayerDefinition : Type 0 where
  pub kind : LayerKind
  pub title : List ℕ
  pub class_item : List ℕ
  pub label_item : List ℕ
  pub items : List ℕ
  pub classes : List ClassDefinition
  pub features : List FeatureDefinition

-- a map: the layers are pairs of name and layer, in the order of the mapfile
pub record Definition : Type 0 where
  pub name : List ℕ
  pub title : List ℕ
  pub abstract_text : List ℕ
  pub address : List ℕ
  pub extent : ExtentValue
  pub projection : Projection
  pub layers : List (List ℕ × LayerDefinition)

-- the map of sequence 0, with which every history begins
abbrev pub empty_map : Definition
empty_map = record {
  name = codes "empty";
  title = codes "empty";
  abstract_text = [];
  address = codes "http://localhost/wms?";
  extent = record { minx = pos 0; miny = pos 0; maxx = pos 1_000_000; maxy = pos 1_000_000 };
  projection = Epsg4326;
  layers = [];
}
