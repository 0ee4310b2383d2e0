-- Each label of a map has a text that isn't empty, so its box has a pixel.
use Rattle.std.proofs.Common.{◌≡◌, ℕ, zero, suc, ◌<◌, true, not, ◌||◌, List, [], ◌∷◌, length, reverse, Option, Some, None, slice_get, ℤ, pos, sym, ap, arith}
use Rattle.std.proofs.Math.Nat.{mul-pos}
use Rattle.std.proofs.lemmas.Bool.{and_parts}
use Rattle.std.proofs.lemmas.Int.{ints}
use Rattle.std.proofs.lemmas.List.Elements.{All-nil, All-cons, All-append}
use Rattle.std.proofs.lemmas.Str.{encodes-chars}
use Rattle.std.specs.List.{All, cons_option, filter_map, flat_map, list_any}
use Rattle.std.specs.Str.{IsUtf8, chars, encode_utf8_all}
use Rattle.wf_def.specs.Definition.{Definition, LayerDefinition, LabelDefinition, FeatureDefinition}
use Rattle.wf_def.specs.Limit.{most_priority}
use Rattle.wf_geometry.specs.Exact.{plus, is_less}
use Rattle.wf_geometry.specs.View.{ViewValue}
use Rattle.wf_label.specs.Anchor.{anchor_of}
use Rattle.wf_label.specs.PixelBox.{box_of, is_whole_in, meets, text_width, text_height}
use Rattle.wf_label.specs.Label.{candidates, entry_labels, feature_label, label_of, labelled, labels_of, labels_up_to, layer_labels, text_of}
use Rattle.wf_label.specs.Placed.{PlacedValue, placed_value, placed_values}
use Rattle.wf_label.specs.LabelLayout.{stands}
use Rattle.wf_label.specs.Taken.{IsSolid, LiesInView}
use Rattle.wf_label.specs.declared.feature_anchor.Anchor.{Anchor}
use Rattle.wf_label.specs.declared.placed.Placed.{Placed}
use Rattle.std.proofs.Common.{get_or}
use Rattle.std.proofs.lemmas.List.{get_or-map, length-map}

abbrev Means : PlacedValue → Type 0
Means label = 0 < length label.text

-- ---- the labels of a map

found_means : (found : Option LabelDefinition) (text : List ℕ) (anchor : Option Anchor) (rest : List PlacedValue) → All Means rest → All Means (cons_option (labelled found text anchor) rest)
found_means None text anchor rest all = all
found_means (Some label) [] anchor rest all = all
found_means (Some label) (b ∷ text) None rest all = all
found_means (Some label) (b ∷ text) (Some anchor) rest all = All-cons Means _ rest (omega arith) all

features_imply : (view : ViewValue) (priority : ℕ) (layer : LayerDefinition) (features : List FeatureDefinition) → All Means (filter_map (feature_label view priority layer) features)
unfolding feature_label
features_imply view priority layer [] = All-nil Means
features_imply view priority layer (feature ∷ features) =
    found_means (label_of priority layer feature) (text_of layer feature) (anchor_of view feature.parts) (filter_map (feature_label view priority layer) features) (features_imply view priority layer features)

entry_means : (view : ViewValue) (priority : ℕ) (entry : Option (List ℕ × LayerDefinition)) → All Means (entry_labels view priority entry)
unfolding layer_labels
entry_means view priority None = All-nil Means
entry_means view priority (Some entry) = features_imply view priority entry.1 entry.1.features

layers_imply : (map : Definition) (view : ViewValue) (priority : ℕ) (layers : List ℕ) → All Means (flat_map (λ i. entry_labels view priority (slice_get map.layers i)) layers)
layers_imply map view priority [] = All-nil Means
layers_imply map view priority (i ∷ layers) = All-append Means (entry_labels view priority (slice_get map.layers i)) _ (entry_means view priority (slice_get map.layers i)) (layers_imply map view priority layers)

priorities_imply : (map : Definition) (layers : List ℕ) (view : ViewValue) (priority : ℕ) → All Means (labels_up_to map layers view priority)
unfolding labels_up_to labels_of
priorities_imply map layers view zero = All-nil Means
priorities_imply map layers view (suc priority) = All-append Means _ _ (layers_imply map view (suc priority) (reverse layers)) (priorities_imply map layers view priority)

pub candidates_imply : (map : Definition) (layers : List ℕ) (view : ViewValue) → All (λ label. 0 < length label.text) (candidates map layers view)
unfolding candidates
candidates_imply map layers view = priorities_imply map layers view most_priority

-- the same of the code's labels
pub means_at : (labels : List Placed) (i : ℕ) (d : Placed) → i < length labels → All (λ label. 0 < length label.text) (placed_values labels) → 0 < length (get_or labels i d).text.now
means_at labels i d within all =
    let here = all i (placed_value d) (omega (arith, length-map labels placed_value)) in
    rw (get_or-map placed_value labels i d (placed_value d) within) at here

-- ---- boxes of labels whose text isn't empty

some_characters : (cs text : List ℕ) → encode_utf8_all cs ≡ text → 0 < length text → 0 < length cs
some_characters [] text is some = absurd (let none : length text ≡ 0 = ap length (sym is) in omega arith)
some_characters (c ∷ cs) text is some = omega arith

pub chars_some : (text : List ℕ) → IsUtf8 text → 0 < length text → 0 < length (chars text)
chars_some text is some = some_characters (chars text) text (encodes-chars text is) some

pub width_some : (scale : ℕ) (text : List ℕ) → 0 < scale → 0 < length (chars text) → 0 < text_width scale text
unfolding text_width
width_some scale text some characters = mul-pos (omega arith) characters

pub height_some : (scale : ℕ) → 0 < scale → 0 < text_height scale
unfolding text_height
height_some scale some = omega arith

pub further : (a : ℤ) (n : ℕ) → 0 < n → is_less a (plus a (pos n)) ≡ true
unfolding is_less plus
further a n some = grind (arith, ints)

-- a label that may be placed has a box with a pixel, whole in the view
pub shown_from : (view : ViewValue) (before : List PlacedValue) (label : PlacedValue) → stands view before label ≡ true → IsSolid (box_of label) → LiesInView view label
unfolding stands
shown_from view before label is solid = record { solid = solid; whole = (and_parts (is_whole_in view (box_of label)) (label.force || not (list_any (meets label) before)) is).0 }
