-- The service metadata document: OGC 06-042, 7.2.4 and the schema of annex E.1, whose order of
-- elements it keeps.
use Rattle.std.specs.Prelude.{ℕ, ℤ, List, ◌++◌, codes, decimal, flat_map}
use Rattle.wf_def.specs.Definition.{Definition, LayerDefinition}
use Rattle.wf_def.specs.Extent.{ExtentValue}
use Rattle.wf_def.specs.declared.choice.Projection.{Projection}
use Rattle.wf_def.specs.declared.choice.Projection.TheVariants.{Epsg4326, Epsg3857}
use Rattle.wf_geometry.specs.Limit.{most_pixels}
use Rattle.wf_text.specs.NumberText.{number_text}
use Rattle.wf_wms.specs.Limit.{most_entries}
use Rattle.wf_wms.specs.Xml.{escape, line}

unfoldable pub start_tag : List ℕ → List ℕ
start_tag name = codes "<" ++ name ++ codes ">"

unfoldable pub end_tag : List ℕ → List ℕ
end_tag name = codes "</" ++ name ++ codes ">"

-- an element that holds a text
unfoldable pub element : List ℕ → List ℕ → List ℕ
element name text = start_tag name ++ escape text ++ end_tag name

-- the address at which requests are answered
unfoldable pub online_resource : List ℕ → List ℕ
online_resource address = codes "<OnlineResource xlink:type=\"simple\" xlink:href=\"" ++ escape address ++ codes "\"/>"

-- an element that holds a number
unfoldable pub limit : List ℕ → ℕ → List ℕ
limit name number = line (start_tag name ++ decimal number ++ end_tag name)

-- the service's description (7.2.4.2 and 7.2.4.3): LayerLimit in layers, MaxWidth and MaxHeight in
-- pixels
unfoldable pub service : Definition → List ℕ
service d =
    line (codes "<Service>")
    ++ line (codes "<Name>WMS</Name>")
    ++ line (element (codes "Title") d.title)
    ++ line (element (codes "Abstract") d.abstract_text)
    ++ line (online_resource d.address)
    ++ limit (codes "LayerLimit") most_entries
    ++ limit (codes "MaxWidth") most_pixels
    ++ limit (codes "MaxHeight") most_pixels
    ++ line (codes "</Service>")

-- one operation, the media type of its answer, and its address (7.2.4.4)
unfoldable pub operation : List ℕ → List ℕ → List ℕ → List ℕ
operation name format address =
    line (start_tag name)
    ++ line (codes "<Format>" ++ format ++ codes "</Format>")
    ++ line (codes "<DCPType><HTTP><Get>" ++ online_resource address ++ codes "</Get></HTTP></DCPType>")
    ++ line (end_tag name)

-- the end of the operations, and the format of exceptions
abbrev pub after_operations : List ℕ
after_operations =
    line (codes "</Request>") ++ line (codes "<Exception>") ++ line (codes "<Format>XML</Format>") ++ line (codes "</Exception>")

-- the operations, and the format of exceptions
unfoldable pub requests : Definition → List ℕ
requests d =
    line (codes "<Request>")
    ++ (operation (codes "GetCapabilities") (codes "text/xml") d.address
    ++ (operation (codes "GetMap") (codes "image/x-portable-pixmap") d.address
    ++ after_operations))

-- a coordinate reference system in which the layers are offered (7.2.4.6.7)
unfoldable pub crs_line : List ℕ → List ℕ
crs_line crs = line (codes "<CRS>" ++ crs ++ codes "</CRS>")

-- an attribute with a number
unfoldable pub side : List ℕ → ℤ → List ℕ
side name number = codes " " ++ name ++ codes "=\"" ++ number_text number ++ codes "\""

-- the sides of the layers' box along the axes of a reference system (7.2.4.6.8)
unfoldable pub box_line : List ℕ → ℤ → ℤ → ℤ → ℤ → List ℕ
box_line crs minx miny maxx maxy = line (
    codes "<BoundingBox CRS=\"" ++ crs ++ codes "\""
    ++ side (codes "minx") minx ++ side (codes "miny") miny
    ++ side (codes "maxx") maxx ++ side (codes "maxy") maxy
    ++ codes "/>")

-- the reference systems of a projection: the degrees of EPSG:4326 and of CRS:84 are the same
unfoldable pub crs_lines : Projection → List ℕ
crs_lines Epsg4326 = crs_line (codes "EPSG:4326") ++ crs_line (codes "CRS:84")
crs_lines Epsg3857 = crs_line (codes "EPSG:3857")

-- the box in each of them: the first axis of EPSG:4326 is the latitude (annex B), so its x is the
-- EXTENT's y
unfoldable pub box_lines : Projection → ExtentValue → List ℕ
box_lines Epsg4326 e =
    box_line (codes "EPSG:4326") e.miny e.minx e.maxy e.maxx
    ++ box_line (codes "CRS:84") e.minx e.miny e.maxx e.maxy
box_lines Epsg3857 e = box_line (codes "EPSG:3857") e.minx e.miny e.maxx e.maxy

-- the whole world, whatever the map shows (7.2.4.6.6)
unfoldable pub world : List ℕ
world = line (
    codes "<EX_GeographicBoundingBox><westBoundLongitude>-180</westBoundLongitude>"
    ++ codes "<eastBoundLongitude>180</eastBoundLongitude><southBoundLatitude>-90</southBoundLatitude>"
    ++ codes "<northBoundLatitude>90</northBoundLatitude></EX_GeographicBoundingBox>")

-- a layer: its name and its title (7.2.4.6.2, 7.2.4.6.3), with the one style that each has
unfoldable pub layer_line : List ℕ × LayerDefinition → List ℕ
layer_line entry = line (
    codes "<Layer queryable=\"0\">" ++ element (codes "Name") entry.0 ++ element (codes "Title") entry.1.title
    ++ codes "<Style><Name>default</Name><Title>default</Title></Style></Layer>")

-- the layers, in order, nested in the one that represents the map (7.2.4.5)
unfoldable pub layers : Definition → List ℕ
layers d =
    line (codes "<Layer>")
    ++ line (element (codes "Title") d.title)
    ++ crs_lines d.projection
    ++ world
    ++ box_lines d.projection d.extent
    ++ flat_map layer_line d.layers
    ++ line (codes "</Layer>")

-- the first two lines: the document's element has the update sequence (7.2.3.5)
unfoldable pub opening : ℕ → List ℕ
opening s =
    line (codes "<?xml version=\"1.0\" encoding=\"UTF-8\"?>")
    ++ line (codes "<WMS_Capabilities version=\"1.3.0\" updateSequence=\"" ++ decimal s
    ++ codes "\" xmlns=\"http://www.opengis.net/wms\" xmlns:xlink=\"http://www.w3.org/1999/xlink\">")

-- the document at an update sequence, of a map definition
unfoldable pub capabilities : ℕ → Definition → List ℕ
capabilities s d =
    opening s
    ++ service d
    ++ line (codes "<Capability>")
    ++ requests d
    ++ layers d
    ++ line (codes "</Capability>")
    ++ line (codes "</WMS_Capabilities>")
