-- Tiles are parts of one picture: nothing that is painted or placed depends on where a view is cut.
use Rattle.std.proofs.Common.{◌≡◌, ℕ, zero, suc, ◌^◌, Bool, List, [], ◌∷◌, ◌++◌, ◌*◌, reverse, slice_get, Option, Some, None, ℤ, pos, if◌then◌else◌, refl, sym, ap, ap₂, ◌∙◌}
use Rattle.std.specs.List.{filter_map, flat_map}
use Rattle.wf_def.specs.Definition.{Definition, LayerDefinition, FeatureDefinition}
use Rattle.wf_def.specs.Limit.{most_priority}
use Rattle.wf_def.specs.declared.color.Color.{Color}
use Rattle.wf_def.specs.declared.point.Point.{Point}
use Rattle.wf_geometry.specs.Drawing.{IsPartOfTheDrawing, drawing, first_pixel}
use Rattle.wf_geometry.specs.Exact.{plus, quotient, product}
use Rattle.wf_geometry.specs.Operation.{operations, color_at}
use Rattle.wf_geometry.specs.Limit.{most_pixels, pixel_side, shared_tiles, tile_pixels}
use Rattle.wf_geometry.specs.Tile.{tile_view, tile_shift}
use Rattle.wf_geometry.specs.View.{ViewValue}
use Rattle.wf_geometry.specs.declared.grid.GridCell.{GridCell}
use Rattle.wf_geometry.specs.declared.view.Corner.{Corner}
use Rattle.wf_label.specs.Anchor.{anchor_of}
use Rattle.wf_label.specs.Ink.{inked}
use Rattle.wf_label.specs.Label.{labelled as label_at, label_of, text_of, feature_label, layer_labels, entry_labels, labels_of, labels_up_to, candidates}
use Rattle.wf_label.specs.Placed.{PlacedValue}
use Rattle.wf_label.specs.LabelLayout.{stands, joined, placed_after, placed_of}
use Rattle.wf_label.specs.PixelBox.{is_whole_in}
use Rattle.wf_picture.specs.Image.{image}
use Rattle.wf_picture.specs.Picture.{placed, labelled, crop, picture}
use Rattle.wf_picture.specs.Tiles.{ShareAView, SharedViewsHaveOnePicture, TilesAreCropsOfOnePicture, tile_corner}
use Rattle.wf_picture.proofs.ViewLemmas.{tile_size}

-- ---- labels

-- the view, cut elsewhere
abbrev cut : ViewValue → Option Corner → ViewValue
cut v corner = record { width = v.width; height = v.height; x = v.x; y = v.y; corner = corner }

module _ (v : ViewValue) (c d : Option Corner) where
  anchor_cut : (parts : List (List Point)) → anchor_of (cut v c) parts ≡ anchor_of (cut v d) parts
  anchor_cut [] = refl
  anchor_cut ([] ∷ parts) = refl
  anchor_cut ((p ∷ rest) ∷ parts) = refl

  feature_cut : (priority : ℕ) (layer : LayerDefinition) (feature : FeatureDefinition) → feature_label (cut v c) priority layer feature ≡ feature_label (cut v d) priority layer feature
  unfolding feature_label
  feature_cut priority layer feature = ap (label_at (label_of priority layer feature) (text_of layer feature)) (anchor_cut feature.parts)

  layer_cut : (priority : ℕ) (layer : LayerDefinition) → layer_labels (cut v c) priority layer ≡ layer_labels (cut v d) priority layer
  unfolding layer_labels
  layer_cut priority layer i = filter_map (λ feature. feature_cut priority layer feature i) layer.features

  entry_cut : (priority : ℕ) (entry : Option (List ℕ × LayerDefinition)) → entry_labels (cut v c) priority entry ≡ entry_labels (cut v d) priority entry
  entry_cut priority None = refl
  entry_cut priority (Some entry) = layer_cut priority entry.1

  labels_cut : (map : Definition) (layers : List ℕ) (priority : ℕ) → labels_of map layers (cut v c) priority ≡ labels_of map layers (cut v d) priority
  unfolding labels_of
  labels_cut map layers priority i = flat_map (λ index. entry_cut priority (slice_get map.layers index) i) (reverse layers)

  up_to_cut : (map : Definition) (layers : List ℕ) (priority : ℕ) → labels_up_to map layers (cut v c) priority ≡ labels_up_to map layers (cut v d) priority
  unfolding labels_up_to
  up_to_cut map layers zero = refl
  up_to_cut map layers (suc priority) = ap₂ (λ (first rest : List PlacedValue). first ++ rest) (labels_cut map layers (suc priority)) (up_to_cut map layers priority)

  stands_cut : (before : List PlacedValue) (label : PlacedValue) → stands (cut v c) before label ≡ stands (cut v d) before label
  unfolding stands is_whole_in
  stands_cut before label = refl

  after_cut : (before labels : List PlacedValue) → placed_after (cut v c) before labels ≡ placed_after (cut v d) before labels
  after_cut before [] = refl
  after_cut before (label ∷ rest) =
      ap (λ (stays : Bool). placed_after (cut v c) (if stays then before ++ label ∷ [] else before) rest) (stands_cut before label)
      ∙ after_cut (joined (cut v d) before label) rest

  placed_cut : (map : Definition) (layers : List ℕ) → placed map layers (cut v c) ≡ placed map layers (cut v d)
  unfolding placed placed_of candidates
  placed_cut map layers =
      ap (placed_after (cut v c) []) (up_to_cut map layers most_priority)
      ∙ after_cut [] (labels_up_to map layers (cut v d) most_priority)

-- ---- two tiles of one view

module _ (map : Definition) (layers : List ℕ) (background : Color) (cell other : GridCell) (share : ShareAView cell other) where
  shift_same : (k m : ℤ) → quotient k (pos shared_tiles) ≡ quotient m (pos shared_tiles) → tile_shift k ≡ tile_shift m
  unfolding tile_shift
  shift_same k m same = ap (λ (q : ℤ). product q (pos (pixel_side * most_pixels))) same

  -- their views differ in the corner alone
  view_same : tile_view map.extent cell ≡ cut (tile_view map.extent other) (tile_view map.extent cell).corner
  view_same =
      let columns = shift_same cell.col other.col share.columns in
      let rows = shift_same cell.row other.row share.rows in
      let cells : (2 ^ cell.z) ≡ (2 ^ other.z) = ap (λ (z : ℕ). 2 ^ z) share.level in
      rw (columns, rows, cells) refl

  -- so they place the same labels
  placed_same : placed map layers (tile_view map.extent cell) ≡ placed map layers (tile_view map.extent other)
  placed_same =
      ap (placed map layers) view_same
      ∙ placed_cut (tile_view map.extent other) (tile_view map.extent cell).corner (tile_view map.extent other).corner map layers

  first_same : (k m : ℤ) → quotient k (pos shared_tiles) ≡ quotient m (pos shared_tiles) → first_pixel k ≡ first_pixel m
  first_same k m same = ap (λ (q : ℤ). product q (pos most_pixels)) same

  -- and paint the same part of the drawing
  color_same : IsPartOfTheDrawing → (column row : ℤ) →
      color_at (operations map layers (tile_view map.extent cell)) background column row ≡ color_at (operations map layers (tile_view map.extent other)) background column row
  color_same part column row =
      part map layers cell background column row
      ∙ ap (λ (z : ℕ). drawing map layers z background (plus column (first_pixel cell.col)) (plus row (first_pixel cell.row))) share.level
      ∙ ap (λ (p : ℤ). drawing map layers other.z background (plus column p) (plus row (first_pixel cell.row))) (first_same cell.col other.col share.columns)
      ∙ ap (λ (p : ℤ). drawing map layers other.z background (plus column (first_pixel other.col)) (plus row p)) (first_same cell.row other.row share.rows)
      ∙ sym (part map layers other background column row)

  pub shared : IsPartOfTheDrawing → labelled map layers (tile_view map.extent cell) background ≡ labelled map layers (tile_view map.extent other) background
  unfolding labelled
  shared part i column row = inked (placed_same i) (color_same part column row i) column row

pub one_picture : IsPartOfTheDrawing → SharedViewsHaveOnePicture
one_picture part map layers background cell other share = shared map layers background cell other share part

pub crops : IsPartOfTheDrawing → TilesAreCropsOfOnePicture
unfolding picture
crops part map request cell other share found bytes image_of =
    let width = request.size.width in
    let height = request.size.height in
    let size = tile_size map.extent request.bbox width height other found in
    let whole = labelled map request.layers (tile_view map.extent other) request.background in
    image_of.file
    ∙ ap (λ (view : ViewValue). image width height (picture map request.layers view request.background)) (image_of.is.tile other found)
    ∙ ap (λ (w : ℕ). image w height (crop (tile_corner other) whole)) size.0
    ∙ ap (λ (h : ℕ). image tile_pixels h (crop (tile_corner other) whole)) size.1
    ∙ ap (λ (p : ℤ → ℤ → Color). image tile_pixels tile_pixels (crop (tile_corner other) p)) (sym (one_picture part map request.layers request.background cell other share))
