-- The GetMap request: OGC 06-042, 7.3.2 and 7.3.3. This profile adds MAPSEQ, and STYLES may be
-- absent.
--
-- Each parameter is checked by a function of its value: it gives a part of the request, or the
-- exception. `map_request` puts the checks in order; the first exception is the answer.
use Rattle.std.specs.Prelude.{ℕ, ◌+◌, ◌<◌, ◌==◌, ◌&&◌, Bool, true, false, not, nat_le, nat_lt, List, [], ◌∷◌, length, bytes_eq, codes, filter_map, position, is_none, Option, Some, None, ok_or, Result, Ok, Err, ℤ, pos, ◌+ℤ◌, int_le, ⊤, if◌then◌else◌}
use Rattle.std.specs.Char.{is_ascii_digit}
use Rattle.std.specs.List.{All, list_all, slice_split}
use Rattle.wf_def.specs.declared.choice.Projection.{Projection}
use Rattle.wf_def.specs.declared.choice.Projection.TheVariants.{Epsg4326, Epsg3857}
use Rattle.wf_text.specs.declared.fault.NumberFault.{NumberFault}
use Rattle.wf_def.specs.Definition.{Definition}
use Rattle.wf_def.specs.Extent.{ExtentValue}
use Rattle.wf_def.specs.Limits.{layer_names}
use Rattle.wf_def.specs.Number.{number}
use Rattle.wf_geometry.specs.Limit.{least_cell, most_pixels}
use Rattle.wf_picture.specs.Request.{RequestValue}
use Rattle.wf_picture.specs.declared.request.Size.{Size}
use Rattle.wf_wms.specs.Background.{background_in}
use Rattle.wf_text.specs.Number.{number_of_digits}
use Rattle.wf_wms.specs.Limit.{most_entries}
use Rattle.wf_wms.specs.Query.{parameter}
use Rattle.wf_wms.specs.declared.bounding_box.Axes.{Axes}
use Rattle.wf_wms.specs.declared.bounding_box.Axes.TheVariants.{EastFirst, NorthFirst}
use Rattle.wf_wms.specs.declared.exception.Exception.{Exception}
use Rattle.wf_wms.specs.declared.exception.Exception.TheVariants as exception
use Rattle.wf_wms.specs.declared.exception.Parameter.{Parameter}
use Rattle.wf_wms.specs.declared.exception.Parameter.TheVariants as parameters

-- binds a result: `next` is applied if this check passes
infixl 10 ◌>>=◌
abbrev pub ◌>>=◌ : {A B : Type 0} → Result A Exception → (A → Result B Exception) → Result B Exception
(Ok x) >>= next = next x
(Err e) >>= next = Err e

-- a test that passes, or the exception
abbrev pub passed_or : Exception → Bool → Result ⊤ Exception
passed_or e true = Ok tt
passed_or e false = Err e

-- Ok if nothing was found, else the exception with its index, counted from 1
abbrev pub none_or : (ℕ → Exception) → Option ℕ → Result ⊤ Exception
none_or at None = Ok tt
none_or at (Some i) = Err (at (i + 1))

-- the entries of a list, between commas (6.8.2)
unfoldable pub entries : List ℕ → List (List ℕ)
entries text = slice_split (λ b. b == 44) text

-- checks VERSION: it is that of the standard (7.3.3.1)
abbrev pub check_version : Option (List ℕ) → Result ⊤ Exception
check_version None = Err (exception.MissingParameter parameters.Version)
check_version (Some version) = passed_or (exception.BadValue parameters.Version) (bytes_eq version (codes "1.3.0"))

-- MAPSEQ at a server at the sequence s: digits of any length, a number not above s; s if it is
-- absent
abbrev pub sequence_in : ℕ → Option (List ℕ) → Result ℕ Exception
sequence_in s None = Ok s
sequence_in s (Some text) = if list_all is_ascii_digit text
    then (if nat_lt s (number_of_digits text) then Err exception.MapNotPublished else Ok (number_of_digits text))
    else Err (exception.BadValue parameters.MapSequence)

-- checks FORMAT: it is the one format of pictures (7.3.3.7)
abbrev pub check_format : Option (List ℕ) → Result ⊤ Exception
check_format None = Err (exception.MissingParameter parameters.Format)
check_format (Some format) = passed_or exception.InvalidFormat (bytes_eq format (codes "image/x-portable-pixmap"))

-- the index in the map of the layer of this name
unfoldable pub layer_of : Definition → List ℕ → Option ℕ
layer_of d name = position (bytes_eq name) (layer_names d.layers)

-- the indices are those of layers of the map
abbrev pub AreLayersOf : Definition → List ℕ → Type 0
AreLayersOf d indices = All (λ index. index < length d.layers) indices

-- checks LAYERS: no more names than a request may have, each of a layer of the map; a name may
-- occur twice (7.3.3.3)
unfoldable pub check_layers : Definition → List (List ℕ) → Result ⊤ Exception
check_layers d names = do
  _ ← passed_or (exception.BadValue parameters.Layers) (nat_le (length names) most_entries)
  none_or exception.LayerNotDefined (position (λ name. is_none (layer_of d name)) names)

-- STYLES has an entry for each layer, empty or `default`; if it is absent, each layer has its
-- default style (7.3.3.4)
abbrev pub is_style : List ℕ → Bool
is_style [] = true
is_style (byte ∷ bytes) = bytes_eq (byte ∷ bytes) (codes "default")

unfoldable pub check_style_list : ℕ → List (List ℕ) → Result ⊤ Exception
check_style_list count names = do
  _ ← passed_or (exception.BadValue parameters.Styles) (length names == count)
  none_or exception.StyleNotDefined (position (λ name. not (is_style name)) names)

abbrev pub check_styles : ℕ → Option (List ℕ) → Result ⊤ Exception
check_styles count None = Ok tt
check_styles count (Some text) = check_style_list count (entries text)

-- CRS is one in which the map is offered, with its axis order (7.3.3.5, 6.7.3 and annex B): the
-- first axis of EPSG:4326 is the latitude
abbrev pub axes_in : Projection → Option (List ℕ) → Result Axes Exception
axes_in projection None = Err (exception.MissingParameter parameters.Crs)
axes_in Epsg4326 (Some crs) = if bytes_eq crs (codes "EPSG:4326") then Ok NorthFirst
    else (if bytes_eq crs (codes "CRS:84") then Ok EastFirst else Err exception.InvalidCrs)
axes_in Epsg3857 (Some crs) = if bytes_eq crs (codes "EPSG:3857") then Ok EastFirst else Err exception.InvalidCrs

-- the entries, if there are four
unfoldable pub four_of : List (List ℕ) → Option (List ℕ × List ℕ × List ℕ × List ℕ)
four_of (a ∷ b ∷ c ∷ d ∷ []) = Some (a, b, c, d)
four_of _ = None

abbrev pub coordinate_of : Result ℤ NumberFault → Result ℤ Exception
coordinate_of (Ok z) = Ok z
coordinate_of (Err fault) = Err (exception.BadValue parameters.Bbox)

-- the lower and the upper corner along a pair of axes, in the axis order of the map's EXTENT
abbrev pub box_along : Axes → ℤ → ℤ → ℤ → ℤ → ExtentValue
box_along EastFirst a b c d = record { minx = a; miny = b; maxx = c; maxy = d }
box_along NorthFirst a b c d = record { minx = b; miny = a; maxx = d; maxy = c }

-- the side is long enough, as that of the narrowest cell of the grid; so the minimum is below the
-- maximum
abbrev pub is_side : ℤ → ℤ → Bool
is_side low high = int_le (low +ℤ pos least_cell) high

abbrev pub large_enough : ExtentValue → Result ExtentValue Exception
large_enough box = if is_side box.minx box.maxx && is_side box.miny box.maxy then Ok box else Err (exception.BadValue parameters.Bbox)

unfoldable pub box_of : Axes → Option (List ℕ × List ℕ × List ℕ × List ℕ) → Result ExtentValue Exception
box_of axes None = Err (exception.BadValue parameters.Bbox)
box_of axes (Some four) = do
  a ← coordinate_of (number four.0)
  b ← coordinate_of (number four.1)
  c ← coordinate_of (number four.2)
  d ← coordinate_of (number four.3)
  large_enough (box_along axes a b c d)

-- BBOX is four numbers: the lower and the upper corner along the axes of CRS (7.3.3.6)
abbrev pub box_in : Axes → Option (List ℕ) → Result ExtentValue Exception
box_in axes None = Err (exception.MissingParameter parameters.Bbox)
box_in axes (Some text) = box_of axes (four_of (entries text))

-- the text is decimal digits, of a number from 1 to the greatest width and height, as in the
-- service metadata (MaxWidth, MaxHeight)
abbrev pub is_size : List ℕ → Bool
is_size text = list_all is_ascii_digit text && (nat_le 1 (number_of_digits text) && nat_le (number_of_digits text) most_pixels)

-- WIDTH or HEIGHT, in pixels (7.3.3.8)
abbrev pub size_in : Parameter → Option (List ℕ) → Result ℕ Exception
size_in name None = Err (exception.MissingParameter name)
size_in name (Some text) = if is_size text then Ok (number_of_digits text) else Err (exception.BadValue name)

-- WIDTH, then HEIGHT
unfoldable pub picture_size : List (List ℕ × List ℕ) → Result Size Exception
picture_size pairs = do
  width ← size_in parameters.Width (parameter (codes "WIDTH") pairs)
  height ← size_in parameters.Height (parameter (codes "HEIGHT") pairs)
  Ok (record { width = width; height = height })

-- the request for these layers: the parameters after STYLES
unfoldable pub request_in : List ℕ → Projection → List (List ℕ × List ℕ) → Result RequestValue Exception
request_in layers projection pairs = do
  axes ← axes_in projection (parameter (codes "CRS") pairs)
  box ← box_in axes (parameter (codes "BBOX") pairs)
  size ← picture_size pairs
  background ← background_in (parameter (codes "BGCOLOR") pairs)
  Ok (record { layers = layers; bbox = box; size = size; background = background })

-- LAYERS as its layers' indices in the map, the lowest in the picture first
unfoldable pub named_layers : Definition → List (List ℕ) → Result (List ℕ) Exception
named_layers d names = do
  _ ← check_layers d names
  Ok (filter_map (layer_of d) names)

-- the same, if STYLES has an entry for each
unfoldable pub styled_layers : Definition → List (List ℕ) → Option (List ℕ) → Result (List ℕ) Exception
styled_layers d names styles = do
  layers ← named_layers d names
  _ ← check_styles (length names) styles
  Ok layers

-- the names that LAYERS lists, after the check of FORMAT
unfoldable pub listed_names : List (List ℕ × List ℕ) → Result (List ℕ) Exception
listed_names pairs = do
  _ ← check_format (parameter (codes "FORMAT") pairs)
  ok_or (parameter (codes "LAYERS") pairs) (exception.MissingParameter parameters.Layers)

-- the requested layers: the parameters up to STYLES
unfoldable pub layers_in : Definition → List (List ℕ × List ℕ) → Result (List ℕ) Exception
layers_in d pairs = do
  names ← listed_names pairs
  styled_layers d (entries names) (parameter (codes "STYLES") pairs)

-- the picture of a map that a query requests
unfoldable pub picture_in : Definition → List (List ℕ × List ℕ) → Result RequestValue Exception
picture_in d pairs = do
  layers ← layers_in d pairs
  request_in layers d.projection pairs

-- the sequence of the map that a query requests, at a server at the sequence s
unfoldable pub map_sequence : ℕ → List (List ℕ × List ℕ) → Result ℕ Exception
map_sequence s pairs = do
  _ ← check_version (parameter (codes "VERSION") pairs)
  sequence_in s (parameter (codes "MAPSEQ") pairs)

-- the whole request, where d is the map of that sequence: the exception is that of the first check
-- that fails
unfoldable pub map_request : ℕ → Definition → List (List ℕ × List ℕ) → Result RequestValue Exception
map_request s d pairs = do
  _ ← map_sequence s pairs
  picture_in d pairs
