-- The operations of a view that is moved by some pixels give each pixel the colour of the moved
-- pixel in the first view.
use Rattle.std.proofs.Common.{◌≡◌, ℕ, ◌^◌, Bool, true, false, cond, List, [], ◌∷◌, ◌++◌, map, slice_get, Option, Some, None, ℤ, refl, sym, ap, ◌∙◌, arith}
use Rattle.std.proofs.lemmas.Int.{ints}
use Rattle.std.proofs.lemmas.List.{map-append}
use Rattle.wf_def.specs.Definition.{Definition, LayerDefinition, ClassDefinition, StyleDefinition, FeatureDefinition}
use Rattle.wf_def.specs.Attribute.{class_of}
use Rattle.wf_def.specs.declared.color.Color.{Color}
use Rattle.wf_def.specs.declared.point.Point.{Point}
use Rattle.wf_def.specs.declared.choice.LayerKind.{LayerKind}
use Rattle.wf_def.specs.declared.choice.LayerKind.TheVariants.{Points, Lines, Polygons}
use Rattle.wf_geometry.specs.Exact.{plus, difference, product}
use Rattle.wf_geometry.specs.Position.{PositionValue, centre}
use Rattle.wf_geometry.specs.Coverage.{crosses, is_on}
use Rattle.wf_geometry.specs.View.{ViewValue, position, position_of}
use Rattle.wf_geometry.specs.Segments.{path, ring, positions, paths, rings}
use Rattle.wf_geometry.specs.Operation.{ShapeValue, FillOf, LineOf, SquareOf, OperationValue, covers, shape_covers, color_at, in_color, part_squares, squares, polygon, line, style_operations, class_operations, class_at, feature_operations, layer_operations, entry_operations, operations}
use Rattle.wf_geometry.specs.Grid.{width_of}
use Rattle.wf_geometry.specs.Tile.{tile_view, tile_axis, tile_shift}
use Rattle.wf_geometry.specs.Drawing.{grid_view, grid_axis, first_pixel, IsPartOfTheDrawing}
use Rattle.wf_geometry.proofs.OperationLemmas.{color_at-append, color_at-covered, color_at-left}
use Rattle.wf_geometry.proofs.MovedLemmas.{moved, segment, sixteenths, crosses_moved, on_moved, flat_map_alike, path_alike, ring_alike, inside_alike, on_any_alike, centre_moved, square_moved}

-- ---- colours

-- whether an operation covers the pixel, and its colour: all that the pixel's colour depends on
abbrev judge : ℤ → ℤ → OperationValue → Bool × Color
judge column row op = (covers op column row, op.color)

abbrev painted : List (Bool × Color) → Color → Color
painted [] background = background
painted (one ∷ rest) background = painted rest (cond one.0 one.1 background)

color_at-one : (op : OperationValue) (background : Color) (column row : ℤ) → color_at (op ∷ []) background column row ≡ cond (covers op column row) op.color background
color_at-one op background column row = by_test (covers op column row) refl where
  by_test : (b : Bool) → covers op column row ≡ b → color_at (op ∷ []) background column row ≡ cond b op.color background
  by_test true covered = color_at-covered op background column row covered
  by_test false left = color_at-left op background column row left

color_of_compared : (ops : List OperationValue) (background : Color) (column row : ℤ) → color_at ops background column row ≡ painted (map (judge column row) ops) background
unfolding color_at
color_of_compared [] background column row = refl
color_of_compared (op ∷ ops) background column row =
    color_at-append (op ∷ []) ops background column row
    ∙ color_of_compared ops (color_at (op ∷ []) background column row) column row
    ∙ ap (painted (map (judge column row) ops)) (color_at-one op background column row)

-- ---- operations

module _ (V W : ViewValue) (m n : ℤ) (shown : (p : Point) → position_of V p ≡ moved (sixteenths m) (sixteenths n) (position_of W p)) (u v : ℤ) where
  positions_moved : (points : List Point) → positions V points ≡ map (moved (sixteenths m) (sixteenths n)) (positions W points)
  positions_moved [] = refl
  positions_moved (p ∷ rest) =
      ap (λ first. first ∷ positions V rest) (shown p) ∙ ap (λ others. moved (sixteenths m) (sixteenths n) (position_of W p) ∷ others) (positions_moved rest)

  crossed_alike : (a b : PositionValue) → crosses (centre u v) (segment (moved (sixteenths m) (sixteenths n) a) (moved (sixteenths m) (sixteenths n) b)) ≡ crosses (centre (plus u m) (plus v n)) (segment a b)
  crossed_alike a b =
      ap (λ (c : PositionValue). crosses c (segment (moved (sixteenths m) (sixteenths n) a) (moved (sixteenths m) (sixteenths n) b))) (centre_moved u v m n)
      ∙ crosses_moved (sixteenths m) (sixteenths n) (centre (plus u m) (plus v n)) a b

  on_alike : (width : ℕ) (a b : PositionValue) → is_on width (centre u v) (segment (moved (sixteenths m) (sixteenths n) a) (moved (sixteenths m) (sixteenths n) b)) ≡ is_on width (centre (plus u m) (plus v n)) (segment a b)
  on_alike width a b =
      ap (λ (c : PositionValue). is_on width c (segment (moved (sixteenths m) (sixteenths n) a) (moved (sixteenths m) (sixteenths n) b))) (centre_moved u v m n)
      ∙ on_moved (sixteenths m) (sixteenths n) width (centre (plus u m) (plus v n)) a b

  rings_crossed : (parts : List (List Point)) → map (crosses (centre u v)) (rings V parts) ≡ map (crosses (centre (plus u m) (plus v n))) (rings W parts)
  unfolding rings
  rings_crossed parts = flat_map_alike (λ part. ring (positions V part)) (λ part. ring (positions W part)) (crosses (centre u v)) (crosses (centre (plus u m) (plus v n)))
      (λ part. ap (λ (ps : List PositionValue). map (crosses (centre u v)) (ring ps)) (positions_moved part)
      ∙ ring_alike (sixteenths m) (sixteenths n) (crosses (centre u v)) (crosses (centre (plus u m) (plus v n))) crossed_alike (positions W part)) parts

  rings_on : (width : ℕ) (parts : List (List Point)) → map (is_on width (centre u v)) (rings V parts) ≡ map (is_on width (centre (plus u m) (plus v n))) (rings W parts)
  unfolding rings
  rings_on width parts = flat_map_alike (λ part. ring (positions V part)) (λ part. ring (positions W part)) (is_on width (centre u v)) (is_on width (centre (plus u m) (plus v n)))
      (λ part. ap (λ (ps : List PositionValue). map (is_on width (centre u v)) (ring ps)) (positions_moved part)
      ∙ ring_alike (sixteenths m) (sixteenths n) (is_on width (centre u v)) (is_on width (centre (plus u m) (plus v n))) (on_alike width) (positions W part)) parts

  paths_on : (width : ℕ) (parts : List (List Point)) → map (is_on width (centre u v)) (paths V parts) ≡ map (is_on width (centre (plus u m) (plus v n))) (paths W parts)
  unfolding paths
  paths_on width parts = flat_map_alike (λ part. path (positions V part)) (λ part. path (positions W part)) (is_on width (centre u v)) (is_on width (centre (plus u m) (plus v n)))
      (λ part. ap (λ (ps : List PositionValue). map (is_on width (centre u v)) (path ps)) (positions_moved part)
      ∙ path_alike (sixteenths m) (sixteenths n) (is_on width (centre u v)) (is_on width (centre (plus u m) (plus v n))) (on_alike width) (positions W part)) parts

  in_color_alike : (shape other : ShapeValue) → shape_covers shape u v ≡ shape_covers other (plus u m) (plus v n) → (color : Option Color) →
      map (judge u v) (in_color shape color) ≡ map (judge (plus u m) (plus v n)) (in_color other color)
  unfolding covers
  in_color_alike shape other same None = refl
  in_color_alike shape other same (Some color) = ap (λ (b : Bool). (b, color) ∷ []) same

  fill_alike : (parts : List (List Point)) → shape_covers (FillOf (rings V parts)) u v ≡ shape_covers (FillOf (rings W parts)) (plus u m) (plus v n)
  fill_alike parts = inside_alike (centre u v) (centre (plus u m) (plus v n)) (rings V parts) (rings W parts) (rings_crossed parts)

  outline_alike : (width : ℕ) (parts : List (List Point)) → shape_covers (LineOf width (rings V parts)) u v ≡ shape_covers (LineOf width (rings W parts)) (plus u m) (plus v n)
  outline_alike width parts = on_any_alike width (centre u v) (centre (plus u m) (plus v n)) (rings V parts) (rings W parts) (rings_on width parts)

  line_alike : (width : ℕ) (parts : List (List Point)) → shape_covers (LineOf width (paths V parts)) u v ≡ shape_covers (LineOf width (paths W parts)) (plus u m) (plus v n)
  line_alike width parts = on_any_alike width (centre u v) (centre (plus u m) (plus v n)) (paths V parts) (paths W parts) (paths_on width parts)

  square_alike : (size : ℕ) (p : Point) → shape_covers (SquareOf size (position_of V p)) u v ≡ shape_covers (SquareOf size (position_of W p)) (plus u m) (plus v n)
  square_alike size p = ap (λ (position : PositionValue). shape_covers (SquareOf size position) u v) (shown p) ∙ square_moved size (position_of W p) m n u v

  polygons_alike : (style : StyleDefinition) (parts : List (List Point)) → map (judge u v) (polygon V style parts) ≡ map (judge (plus u m) (plus v n)) (polygon W style parts)
  unfolding polygon
  polygons_alike style parts =
      map-append (judge u v) (in_color (FillOf (rings V parts)) style.color) (in_color (LineOf style.width (rings V parts)) style.outline_color)
      ∙ ap (λ first. first ++ map (judge u v) (in_color (LineOf style.width (rings V parts)) style.outline_color)) (in_color_alike (FillOf (rings V parts)) (FillOf (rings W parts)) (fill_alike parts) style.color)
      ∙ ap (λ rest. map (judge (plus u m) (plus v n)) (in_color (FillOf (rings W parts)) style.color) ++ rest) (in_color_alike (LineOf style.width (rings V parts)) (LineOf style.width (rings W parts)) (outline_alike style.width parts) style.outline_color)
      ∙ sym (map-append (judge (plus u m) (plus v n)) (in_color (FillOf (rings W parts)) style.color) (in_color (LineOf style.width (rings W parts)) style.outline_color))

  lines_alike : (style : StyleDefinition) (parts : List (List Point)) → map (judge u v) (line V style parts) ≡ map (judge (plus u m) (plus v n)) (line W style parts)
  unfolding line
  lines_alike style parts = in_color_alike (LineOf style.width (paths V parts)) (LineOf style.width (paths W parts)) (line_alike style.width parts) style.color

  part_alike : (style : StyleDefinition) (points : List Point) → map (judge u v) (part_squares V style points) ≡ map (judge (plus u m) (plus v n)) (part_squares W style points)
  unfolding part_squares
  part_alike style points = flat_map_alike (λ p. in_color (SquareOf style.size (position_of V p)) style.color) (λ p. in_color (SquareOf style.size (position_of W p)) style.color) (judge u v) (judge (plus u m) (plus v n))
      (λ p. in_color_alike (SquareOf style.size (position_of V p)) (SquareOf style.size (position_of W p)) (square_alike style.size p) style.color) points

  squares_alike : (style : StyleDefinition) (parts : List (List Point)) → map (judge u v) (squares V style parts) ≡ map (judge (plus u m) (plus v n)) (squares W style parts)
  unfolding squares
  squares_alike style parts = flat_map_alike (part_squares V style) (part_squares W style) (judge u v) (judge (plus u m) (plus v n)) (part_alike style) parts

  style_alike : (kind : LayerKind) (parts : List (List Point)) (style : StyleDefinition) → map (judge u v) (style_operations V kind parts style) ≡ map (judge (plus u m) (plus v n)) (style_operations W kind parts style)
  style_alike Points parts style = squares_alike style parts
  style_alike Lines parts style = lines_alike style parts
  style_alike Polygons parts style = polygons_alike style parts

  class_alike : (kind : LayerKind) (parts : List (List Point)) (class : Option ClassDefinition) → map (judge u v) (class_operations V kind parts class) ≡ map (judge (plus u m) (plus v n)) (class_operations W kind parts class)
  class_alike kind parts None = refl
  class_alike kind parts (Some class) = flat_map_alike (style_operations V kind parts) (style_operations W kind parts) (judge u v) (judge (plus u m) (plus v n)) (style_alike kind parts) class.styles

  feature_alike : (layer : LayerDefinition) (feature : FeatureDefinition) → map (judge u v) (feature_operations V layer feature) ≡ map (judge (plus u m) (plus v n)) (feature_operations W layer feature)
  unfolding feature_operations
  feature_alike layer feature = class_alike layer.kind feature.parts (class_at layer (class_of layer feature))

  layer_alike : (layer : LayerDefinition) → map (judge u v) (layer_operations V layer) ≡ map (judge (plus u m) (plus v n)) (layer_operations W layer)
  unfolding layer_operations
  layer_alike layer = flat_map_alike (feature_operations V layer) (feature_operations W layer) (judge u v) (judge (plus u m) (plus v n)) (feature_alike layer) layer.features

  entry_alike : (entry : Option (List ℕ × LayerDefinition)) → map (judge u v) (entry_operations V entry) ≡ map (judge (plus u m) (plus v n)) (entry_operations W entry)
  entry_alike None = refl
  entry_alike (Some entry) = layer_alike entry.1

  operations_alike : (map_definition : Definition) (layers : List ℕ) → map (judge u v) (operations map_definition layers V) ≡ map (judge (plus u m) (plus v n)) (operations map_definition layers W)
  unfolding operations
  operations_alike d layers = flat_map_alike (λ i. entry_operations V (slice_get d.layers i)) (λ i. entry_operations W (slice_get d.layers i)) (judge u v) (judge (plus u m) (plus v n)) (λ i. entry_alike (slice_get d.layers i)) layers

  -- the colours are the same
  pub colors_alike : (d : Definition) (layers : List ℕ) (background : Color) → color_at (operations d layers V) background u v ≡ color_at (operations d layers W) background (plus u m) (plus v n)
  colors_alike d layers background =
      color_of_compared (operations d layers V) background u v
      ∙ ap (λ (compared : List (Bool × Color)). painted compared background) (operations_alike d layers)
      ∙ sym (color_of_compared (operations d layers W) background (plus u m) (plus v n))

-- ---- tiles

-- a tile's view starts `first_pixel k` pixels after the whole grid
tile_position : (origin : ℤ) (width cells : ℕ) (k x : ℤ) →
    position (tile_axis origin width cells k) x ≡ difference (position (grid_axis origin width cells) x) (sixteenths (first_pixel k))
unfolding position difference sixteenths tile_shift product
tile_position origin width cells k x = omega (arith, ints)

pub tiles_drawn : IsPartOfTheDrawing
tiles_drawn d layers cell background column row =
    colors_alike (tile_view d.extent cell) (grid_view d.extent cell.z) (first_pixel cell.col) (first_pixel cell.row)
    (λ p i. record {
      x = tile_position d.extent.minx (width_of d.extent) (2 ^ cell.z) cell.col p.x i;
      y = tile_position d.extent.miny (width_of d.extent) (2 ^ cell.z) cell.row p.y i;
    })
    column row d layers background
