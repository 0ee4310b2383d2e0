-- The canonical text of a map definition: one item a line, each line ended by LF, single spaces,
-- keywords and choices in capitals, every default filled in. An optional value has a line only if
-- it is present.
use Rattle.std.specs.Prelude.{◌≡◌, ℕ, ℤ, ◌≤◌, length, Bool, true, false, List, [], ◌∷◌, ◌++◌, map, Option, Some, None, codes, ◌<◌, min}
use Rattle.std.specs.List.{flat_map}
use Rattle.std.specs.Fmt.{decimal}
use Rattle.wf_def.specs.Definition.{Definition, LayerDefinition, ClassDefinition, ExpressionDefinition, StyleDefinition, LabelDefinition, FeatureDefinition}
use Rattle.wf_def.specs.Limits.{IsWithinLimits}
use Rattle.wf_def.specs.Extent.{ExtentValue}
use Rattle.wf_def.specs.declared.expression.Expression.TheVariants.{Equals, OneOf}
use Rattle.wf_def.specs.declared.color.Color.{Color}
use Rattle.wf_def.specs.declared.point.Point.{Point}
use Rattle.wf_def.specs.declared.choice.Projection.{Projection}
use Rattle.wf_def.specs.declared.choice.Projection.TheVariants.{Epsg4326, Epsg3857}
use Rattle.wf_def.specs.declared.choice.LayerKind.{LayerKind}
use Rattle.wf_def.specs.declared.choice.LayerKind.TheVariants.{Points, Lines, Polygons}
use Rattle.wf_def.specs.declared.choice.LabelSize.{LabelSize}
use Rattle.wf_def.specs.declared.choice.LabelSize.TheVariants.{Tiny, Small, Medium, Large, Giant}
use Rattle.wf_def.specs.declared.choice.LabelPosition.{LabelPosition}
use Rattle.wf_def.specs.declared.choice.LabelPosition.TheVariants.{UpperLeft, UpperCenter, UpperRight, CenterLeft, CenterCenter, CenterRight, LowerLeft, LowerCenter, LowerRight}
use Rattle.wf_block.specs.Token.{Token, Word, Quoted, Braced}
use Rattle.wf_text.specs.NumberText.{number_text}
unfoldable pub use Rattle.wf_block.specs.Spelling.{line}
pub use Rattle.wf_block.specs.Spelling.{quote_for, quoted, braced, spelled, text_of}
use Rattle.wf_spelling.specs.declared.fault.CanonFault.{CanonFault}
use Rattle.wf_spelling.specs.declared.fault.CanonFault.TheVariants.{TooBig, NotCanonical, Memory}

-- ---- words

abbrev pub number_word : ℤ → Token
number_word n = Word (number_text n)

abbrev pub whole_word : ℕ → Token
whole_word n = Word (decimal n)

abbrev pub projection_text : Projection → List ℕ
projection_text Epsg4326 = codes "init=epsg:4326"
projection_text Epsg3857 = codes "init=epsg:3857"

abbrev pub kind_word : LayerKind → List ℕ
kind_word Points = codes "POINT"
kind_word Lines = codes "LINE"
kind_word Polygons = codes "POLYGON"

abbrev pub size_word : LabelSize → List ℕ
size_word Tiny = codes "TINY"
size_word Small = codes "SMALL"
size_word Medium = codes "MEDIUM"
size_word Large = codes "LARGE"
size_word Giant = codes "GIANT"

abbrev pub position_word : LabelPosition → List ℕ
position_word UpperLeft = codes "UL"
position_word UpperCenter = codes "UC"
position_word UpperRight = codes "UR"
position_word CenterLeft = codes "CL"
position_word CenterCenter = codes "CC"
position_word CenterRight = codes "CR"
position_word LowerLeft = codes "LL"
position_word LowerCenter = codes "LC"
position_word LowerRight = codes "LR"

abbrev pub force_word : Bool → List ℕ
force_word true = codes "TRUE"
force_word false = codes "FALSE"

-- ---- lines

-- a keyword alone on its line
abbrev pub alone : List ℕ → List Token
alone keyword = Word keyword ∷ []

-- a keyword and a text
abbrev pub with_text : List ℕ → List ℕ → List Token
with_text keyword text = Word keyword ∷ Quoted text ∷ []

-- an expression: its text in quotes, or its list in braces
abbrev pub expression_token : ExpressionDefinition → Token
expression_token (Equals text) = Quoted text
expression_token (OneOf inside) = Braced inside

-- a keyword and an expression
abbrev pub with_expression : List ℕ → ExpressionDefinition → List Token
with_expression keyword e = Word keyword ∷ expression_token e ∷ []

-- a keyword and a word
abbrev pub with_word : List ℕ → List ℕ → List Token
with_word keyword word = Word keyword ∷ Word word ∷ []

-- a metadata key and its text
abbrev pub with_key : List ℕ → List ℕ → List Token
with_key key text = Quoted key ∷ Quoted text ∷ []

abbrev pub with_extent : List ℕ → ExtentValue → List Token
with_extent keyword e = Word keyword ∷ number_word e.minx ∷ number_word e.miny ∷ number_word e.maxx ∷ number_word e.maxy ∷ []

abbrev pub with_color : List ℕ → Color → List Token
with_color keyword c = Word keyword ∷ whole_word c.r ∷ whole_word c.g ∷ whole_word c.b ∷ []

-- the line of an optional value, if it is present
abbrev pub when_there : {X : Type 0} → (X → List Token) → Option X → List (List Token)
when_there of None = []
when_there of (Some x) = of x ∷ []

abbrev pub end_line : List Token
end_line = alone (codes "END")

-- ---- blocks

abbrev pub point_line : Point → List Token
point_line p = number_word p.x ∷ number_word p.y ∷ []

abbrev pub part_lines : List Point → List (List Token)
part_lines part = alone (codes "POINTS") ∷ map point_line part ++ end_line ∷ []

abbrev pub feature_lines : FeatureDefinition → List (List Token)
feature_lines f =
    alone (codes "FEATURE")
    ∷ with_text (codes "ITEMS") f.items
    ∷ with_text (codes "TEXT") f.text
    ∷ flat_map part_lines f.parts
    ++ end_line ∷ []

abbrev pub label_lines : LabelDefinition → List (List Token)
label_lines l =
    alone (codes "LABEL")
    ∷ with_color (codes "COLOR") l.color
    ∷ with_word (codes "SIZE") (size_word l.size)
    ∷ with_word (codes "POSITION") (position_word l.position)
    ∷ with_word (codes "PRIORITY") (decimal l.priority)
    ∷ with_word (codes "FORCE") (force_word l.force)
    ∷ with_word (codes "BUFFER") (decimal l.buffer)
    ∷ end_line
    ∷ []

abbrev pub style_lines : StyleDefinition → List (List Token)
style_lines s =
    (alone (codes "STYLE") ∷ [])
    ++ when_there (with_color (codes "COLOR")) s.color
    ++ when_there (with_color (codes "OUTLINECOLOR")) s.outline_color
    ++ with_word (codes "WIDTH") (decimal s.width)
    ∷ with_word (codes "SIZE") (decimal s.size)
    ∷ end_line
    ∷ []

-- the lines of a label, if there is one
abbrev pub optional_label_lines : Option LabelDefinition → List (List Token)
optional_label_lines None = []
optional_label_lines (Some l) = label_lines l

abbrev pub class_lines : ClassDefinition → List (List Token)
class_lines c =
    (alone (codes "CLASS") ∷ with_text (codes "NAME") c.name ∷ [])
    ++ when_there (with_expression (codes "EXPRESSION")) c.expression
    ++ flat_map style_lines c.styles
    ++ optional_label_lines c.label
    ++ end_line ∷ []

-- a layer's METADATA block
abbrev pub metadata_lines : List ℕ → List (List Token)
metadata_lines title = alone (codes "METADATA") ∷ with_key (codes "wms_title") title ∷ end_line ∷ []

-- a layer with its name
abbrev pub layer_lines : List ℕ × LayerDefinition → List (List Token)
layer_lines entry = let l = entry.1 in
    (alone (codes "LAYER")
    ∷ with_text (codes "NAME") entry.0
    ∷ with_word (codes "TYPE") (kind_word l.kind)
    ∷ with_text (codes "CLASSITEM") l.class_item
    ∷ with_text (codes "LABELITEM") l.label_item
    ∷ with_text (codes "PROCESSING") (codes "ITEMS=" ++ l.items)
    ∷ metadata_lines l.title)
    ++ flat_map class_lines l.classes
    ++ flat_map feature_lines l.features
    ++ end_line ∷ []

abbrev pub heading_lines : Definition → List (List Token)
heading_lines d =
    alone (codes "MAP")
    ∷ with_text (codes "NAME") d.name
    ∷ with_extent (codes "EXTENT") d.extent
    ∷ []

abbrev pub projection_lines : Projection → List (List Token)
projection_lines p = alone (codes "PROJECTION") ∷ (Quoted (projection_text p) ∷ []) ∷ end_line ∷ []

abbrev pub web_lines : Definition → List (List Token)
web_lines d =
    alone (codes "WEB")
    ∷ alone (codes "METADATA")
    ∷ with_key (codes "wms_title") d.title
    ∷ with_key (codes "wms_abstract") d.abstract_text
    ∷ with_key (codes "wms_onlineresource") d.address
    ∷ end_line
    ∷ end_line
    ∷ []

abbrev pub map_lines : Definition → List (List Token)
map_lines d =
    heading_lines d
    ++ projection_lines d.projection
    ++ web_lines d
    ++ flat_map layer_lines d.layers
    ++ end_line ∷ []

-- ---- the text

unfoldable pub canon : Definition → List ℕ
canon d = text_of (map_lines d)

-- the longest canonical text, in bytes
abbrev pub most_canon_bytes : ℕ
most_canon_bytes = 65536

-- a number of bytes as it is counted: up to 2^64 - 1
abbrev pub counted : ℕ → ℕ
counted bytes = min bytes 18_446_744_073_709_551_615

-- the text is a map's canonical text, within the limit
pub record IsCanon (text : List ℕ) (d : Definition) : Type 0 where
  pub spelled : text ≡ canon d
  pub within : IsWithinLimits d
  pub short : length text ≤ most_canon_bytes

-- why a definition has no canonical text: it is over the limit, or it isn't and allocation failed
abbrev pub IsCauseOf : CanonFault → Definition → Type 0
IsCauseOf TooBig d = most_canon_bytes < length (canon d)
IsCauseOf NotCanonical d = ⊥
IsCauseOf Memory d = length (canon d) ≤ most_canon_bytes
