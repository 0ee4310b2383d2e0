-- What the service metadata of a map offers (OGC 06-042, 7.2.4), and that GetMap takes exactly that
-- (7.3.3).
use Rattle.std.specs.Prelude.{◌≡◌, ℕ, ◌==◌, ◌&&◌, ◌||◌, Bool, true, false, nat_le, List, [], ◌∷◌, ◌++◌, length, map, flat_map, bytes_eq, codes, is_ok, Option, Some, None}
use Rattle.std.specs.Char.{is_ascii_digit}
use Rattle.std.specs.List.{list_all, list_any}
use Rattle.wf_def.specs.Definition.{Definition, LayerDefinition}
use Rattle.wf_def.specs.Extent.{ExtentValue}
use Rattle.wf_def.specs.declared.choice.Projection.{Projection}
use Rattle.wf_def.specs.declared.choice.Projection.TheVariants.{Epsg4326, Epsg3857}
use Rattle.wf_text.specs.Number.{number_of_digits}
use Rattle.wf_wms.specs.Background.{background_in}
use Rattle.wf_wms.specs.Capabilities.{after_operations, box_line, capabilities, crs_line, element, limit, online_resource, opening, operation, world}
use Rattle.wf_wms.specs.MapRequest.{◌>>=◌, axes_in, box_in, check_format, check_layers, check_styles, entries, map_request, map_sequence, size_in}
use Rattle.wf_wms.specs.Query.{parameter}
use Rattle.wf_wms.specs.Xml.{line}
use Rattle.wf_wms.specs.declared.exception.Parameter.{Parameter}

-- which axis of a reference system comes first: that to the east, or that to the north
pub data AxisOrder : Type 0 where
  EastFirst NorthFirst : AxisOrder

-- The reference systems, each with the order of its axes; the format of pictures; the layers, each
-- a name and a title; their one style; the most layers of a request; the greatest width and height,
-- in pixels.
pub record Offer : Type 0 where
  pub systems : List (List ℕ × AxisOrder)
  pub format : List ℕ
  pub layers : List (List ℕ × List ℕ)
  pub style : List ℕ
  pub most_layers : ℕ
  pub most_width : ℕ
  pub most_height : ℕ

-- the axes of each reference system of a projection (6.7.3 and annex B)
abbrev pub systems_of : Projection → List (List ℕ × AxisOrder)
systems_of Epsg4326 = (codes "EPSG:4326", NorthFirst) ∷ (codes "CRS:84", EastFirst) ∷ []
systems_of Epsg3857 = (codes "EPSG:3857", EastFirst) ∷ []

abbrev pub titled : List ℕ × LayerDefinition → List ℕ × List ℕ
titled layer = (layer.0, layer.1.title)

-- the offer of a map: each word of it stands here, and in what follows nowhere else
unfoldable pub offer : Definition → Offer
offer d = record {
  systems = systems_of d.projection;
  format = codes "image/x-portable-pixmap";
  layers = map titled d.layers;
  style = codes "default";
  most_layers = 64;
  most_width = 1024;
  most_height = 1024;
}

-- ---- the service metadata of an offer

unfoldable pub service_of : Offer → Definition → List ℕ
service_of o d =
    line (codes "<Service>")
    ++ line (codes "<Name>WMS</Name>")
    ++ line (element (codes "Title") d.title)
    ++ line (element (codes "Abstract") d.abstract_text)
    ++ line (online_resource d.address)
    ++ limit (codes "LayerLimit") o.most_layers
    ++ limit (codes "MaxWidth") o.most_width
    ++ limit (codes "MaxHeight") o.most_height
    ++ line (codes "</Service>")

unfoldable pub requests_of : Offer → Definition → List ℕ
requests_of o d =
    line (codes "<Request>")
    ++ (operation (codes "GetCapabilities") (codes "text/xml") d.address
    ++ (operation (codes "GetMap") o.format d.address
    ++ after_operations))

abbrev pub system_line : List ℕ × AxisOrder → List ℕ
system_line system = crs_line system.0

-- the layers' box along a system's axes
abbrev pub box_along : ExtentValue → List ℕ → AxisOrder → List ℕ
box_along e name EastFirst = box_line name e.minx e.miny e.maxx e.maxy
box_along e name NorthFirst = box_line name e.miny e.minx e.maxy e.maxx

abbrev pub system_box : ExtentValue → List ℕ × AxisOrder → List ℕ
system_box e system = box_along e system.0 system.1

-- a layer's one style, and the end of the layer
unfoldable pub style_end : List ℕ → List ℕ
style_end style = codes "<Style><Name>" ++ style ++ codes "</Name><Title>" ++ style ++ codes "</Title></Style></Layer>"

abbrev pub layer_of_style : List ℕ → List ℕ × List ℕ → List ℕ
layer_of_style style layer = line (
    codes "<Layer queryable=\"0\">" ++ element (codes "Name") layer.0 ++ element (codes "Title") layer.1 ++ style_end style)

unfoldable pub layers_of : Offer → Definition → List ℕ
layers_of o d =
    line (codes "<Layer>")
    ++ line (element (codes "Title") d.title)
    ++ flat_map system_line o.systems
    ++ world
    ++ flat_map (system_box d.extent) o.systems
    ++ flat_map (layer_of_style o.style) o.layers
    ++ line (codes "</Layer>")

unfoldable pub metadata_of : Offer → ℕ → Definition → List ℕ
metadata_of o s d =
    opening s
    ++ service_of o d
    ++ line (codes "<Capability>")
    ++ requests_of o d
    ++ layers_of o d
    ++ line (codes "</Capability>")
    ++ line (codes "</WMS_Capabilities>")

-- a map's metadata states its offer
abbrev pub MetadataIsTheOffer : Type 0
MetadataIsTheOffer = (s : ℕ) (d : Definition) → capabilities s d ≡ metadata_of (offer d) s d

-- ---- what GetMap takes of an offer

abbrev pub is_system : Offer → List ℕ → Bool
is_system o crs = list_any (λ system. bytes_eq crs system.0) o.systems

abbrev pub is_layer : Offer → List ℕ → Bool
is_layer o name = list_any (λ layer. bytes_eq name layer.0) o.layers

-- the names that LAYERS lists
abbrev pub are_layers : Offer → List (List ℕ) → Bool
are_layers o names = nat_le (length names) o.most_layers && list_all (is_layer o) names

-- empty, for a layer's default style, or the one that is offered
abbrev pub is_style_of : Offer → List ℕ → Bool
is_style_of o name = bytes_eq name [] || bytes_eq name o.style

-- the entries of STYLES, for that many layers
abbrev pub are_styles : Offer → ℕ → List (List ℕ) → Bool
are_styles o count names = (length names == count) && list_all (is_style_of o) names

-- decimal digits of a number from 1 to the maximum
abbrev pub is_pixels : ℕ → List ℕ → Bool
is_pixels most text = list_all is_ascii_digit text && (nat_le 1 (number_of_digits text) && nat_le (number_of_digits text) most)

-- each check takes what the offer has, and rejects what it hasn't; an absent STYLES passes
pub record TakesOffer (d : Definition) (o : Offer) : Type 0 where
  pub format : (text : List ℕ) → is_ok (check_format (Some text)) ≡ bytes_eq text o.format
  pub system : (text : List ℕ) → is_ok (axes_in d.projection (Some text)) ≡ is_system o text
  pub layers : (names : List (List ℕ)) → is_ok (check_layers d names) ≡ are_layers o names
  pub styles : (count : ℕ) (text : List ℕ) → is_ok (check_styles count (Some text)) ≡ are_styles o count (entries text)
  pub no_styles : (count : ℕ) → is_ok (check_styles count None) ≡ true
  pub width : (name : Parameter) (text : List ℕ) → is_ok (size_in name (Some text)) ≡ is_pixels o.most_width text
  pub height : (name : Parameter) (text : List ℕ) → is_ok (size_in name (Some text)) ≡ is_pixels o.most_height text

abbrev pub EachOfferIsTaken : Type 0
EachOfferIsTaken = (d : Definition) → TakesOffer d (offer d)

-- ---- a whole request

-- the parameter is there, and passes
abbrev pub has : Option (List ℕ) → (List ℕ → Bool) → Bool
has None test = false
has (Some text) test = test text

-- it passes, or is absent
abbrev pub may_have : Option (List ℕ) → (List ℕ → Bool) → Bool
may_have None test = true
may_have (Some text) test = test text

-- FORMAT is the one that is offered, LAYERS lists offered layers, and STYLES has an entry for each,
-- or is absent
abbrev pub asks_for_layers : Offer → List (List ℕ × List ℕ) → Bool
asks_for_layers o pairs =
    has (parameter (codes "FORMAT") pairs) (λ text. bytes_eq text o.format)
    && has (parameter (codes "LAYERS") pairs) (λ text. are_layers o (entries text)
    && may_have (parameter (codes "STYLES") pairs) (λ styles. are_styles o (length (entries text)) (entries styles)))

-- CRS, WIDTH and HEIGHT are offered, BBOX is a box along the axes of CRS, and BGCOLOR is a colour
abbrev pub asks_for_picture : Offer → Projection → List (List ℕ × List ℕ) → Bool
asks_for_picture o projection pairs =
    has (parameter (codes "CRS") pairs) (is_system o)
    && (is_ok (axes_in projection (parameter (codes "CRS") pairs) >>= λ axes. box_in axes (parameter (codes "BBOX") pairs))
    && ((has (parameter (codes "WIDTH") pairs) (is_pixels o.most_width) && has (parameter (codes "HEIGHT") pairs) (is_pixels o.most_height))
    && is_ok (background_in (parameter (codes "BGCOLOR") pairs))))

-- a request whose VERSION and MAPSEQ are accepted gets a picture of that map exactly if it is
-- within the map's offer
abbrev pub RequestsWithinTheOfferAreTaken : Type 0
RequestsWithinTheOfferAreTaken = (s : ℕ) (d : Definition) (pairs : List (List ℕ × List ℕ)) → is_ok (map_sequence s pairs) ≡ true →
    is_ok (map_request s d pairs) ≡ (asks_for_layers (offer d) pairs && asks_for_picture (offer d) d.projection pairs)
