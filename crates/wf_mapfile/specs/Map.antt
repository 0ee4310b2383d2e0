-- MAP: a map's definition.
use Rattle.std.specs.Prelude.{ℕ, ◌&&◌, int_lt, if◌then◌else◌, List, [], ◌∷◌, codes, Option, Some, None, unwrap_or}
use Rattle.wf_def.specs.Definition.{Definition, LayerDefinition}
use Rattle.wf_def.specs.Extent.{ExtentValue}
use Rattle.wf_def.specs.Limit.{most_layers}
use Rattle.wf_def.specs.declared.choice.Projection.{Projection}
use Rattle.wf_def.specs.declared.choice.Projection.TheVariants.{Epsg4326, Epsg3857}
use Rattle.wf_mapfile.specs.declared.slots.MapDropped.{MapDropped}
use Rattle.wf_mapfile.specs.declared.slots.MapOnce.{MapOnce}
use Rattle.wf_mapfile.specs.declared.slots.MapSlots.{MapSlots}
use Rattle.wf_block.specs.Token.{Token}
use Rattle.wf_block.specs.Grammar.{◌>>=◌, choice, text, number, end}
use Rattle.wf_block.specs.Steps.{once, again, step_by, step_or, put_into, block}
use Rattle.wf_class.specs.Color.{color}
use Rattle.wf_mapfile.specs.declared.slots.Metadata as kept
use Rattle.wf_mapfile.specs.Web.{web, no_metadata}
use Rattle.wf_mapfile.specs.Layer.{layer}

-- four numbers, each minimum below its maximum
unfoldable pub extent : List Token → Option (ExtentValue × List Token)
extent tokens = do
  minx ← number tokens
  miny ← number minx.1
  maxx ← number miny.1
  maxy ← number maxx.1
  if int_lt minx.0 maxx.0 && int_lt miny.0 maxy.0 then Some (record { minx = minx.0; miny = miny.0; maxx = maxx.0; maxy = maxy.0 }, maxy.1) else None

-- a width and a height
unfoldable pub two_numbers : List Token → Option (Unit {0} × List Token)
two_numbers tokens = do
  x ← number tokens
  y ← number x.1
  Some (tt, y.1)

-- the coordinate system that a text names
unfoldable pub projection_named : List ℕ → Option Projection
projection_named name = choice (
    (codes "init=epsg:4326", Epsg4326) ∷
    (codes "init=epsg:3857", Epsg3857) ∷ []) name

-- a block of one text
unfoldable pub projection : List Token → Option (Projection × List Token)
projection tokens = do
  x ← text tokens
  value ← projection_named x.0
  rest ← end x.1
  Some (value, rest)

-- the slots after a keyword that is checked and dropped: each comes at most once
unfoldable pub map_dropped : MapDropped → List ℕ → List Token → Option (MapDropped × List Token)
map_dropped settings = step_by (
    (codes "SIZE", once settings.size two_numbers (λ x. record settings { size = Some tt })) ∷
    (codes "IMAGECOLOR", once settings.image_color color (λ x. record settings { image_color = Some tt })) ∷
    (codes "UNITS", once settings.units text (λ x. record settings { units = Some tt })) ∷
    (codes "STATUS", once settings.status text (λ x. record settings { status = Some tt })) ∷
    (codes "IMAGETYPE", once settings.image_type text (λ x. record settings { image_type = Some tt })) ∷
    (codes "SHAPEPATH", once settings.shape_path text (λ x. record settings { shape_path = Some tt })) ∷ [])

-- the slots after a keyword that comes at most once
unfoldable pub map_once : MapOnce → List ℕ → List Token → Option (MapOnce × List Token)
map_once settings = step_or (
    (codes "NAME", once settings.name text (λ x. record settings { name = Some x })) ∷
    (codes "EXTENT", once settings.extent extent (λ x. record settings { extent = Some x })) ∷
    (codes "PROJECTION", once settings.projection projection (λ x. record settings { projection = Some x })) ∷
    (codes "WEB", once settings.web web (λ x. record settings { web = Some x })) ∷ [])
    (λ keyword tokens. put_into (λ x. record settings { dropped = x }) (map_dropped settings.dropped keyword tokens))

-- the slots after a keyword: a layer is appended to those before it
unfoldable pub map_put : MapSlots → List ℕ → List Token → Option (MapSlots × List Token)
map_put settings = step_or (
    (codes "LAYER", again most_layers settings.layers (layer settings.layers) (λ more. record settings { layers = more })) ∷ [])
    (λ keyword tokens. put_into (λ x. record settings { single = x }) (map_once settings.single keyword tokens))

abbrev pub no_map_dropped : MapDropped
no_map_dropped = record { size = None; image_color = None; units = None; status = None; image_type = None; shape_path = None }

abbrev pub no_map_once : MapOnce
no_map_once = record { name = None; extent = None; projection = None; web = None; dropped = no_map_dropped }

abbrev pub no_map : MapSlots
no_map = record { layers = []; single = no_map_once }

-- a map's definition, with defaults for what is absent: the name is `map`, the title is the name,
-- the abstract is empty
unfoldable pub definition : Option (List ℕ) → ExtentValue → Projection → kept.Metadata → List (List ℕ × LayerDefinition) → Definition
definition name extent projection web layers = let name = unwrap_or name (codes "map") in record {
  name = name;
  title = unwrap_or web.title name;
  abstract_text = unwrap_or web.abstract_text [];
  address = unwrap_or web.address (codes "http://localhost/wms?");
  extent = extent;
  projection = projection;
  layers = layers;
}

-- the map of the slots: EXTENT and PROJECTION are required
unfoldable pub map_of : MapSlots → Option Definition
map_of settings = do
  extent ← settings.single.extent
  projection ← settings.single.projection
  Some (definition settings.single.name extent projection (unwrap_or settings.single.web no_metadata) settings.layers)

-- what follows the word MAP, up to its END
unfoldable pub map : List Token → Option (Definition × List Token)
map tokens = do
  x ← block map_put no_map tokens
  d ← map_of x.0
  Some (d, x.1)
