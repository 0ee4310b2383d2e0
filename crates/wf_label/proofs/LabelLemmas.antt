-- Labels gathered layer by layer, and chosen priority by priority.
use Rattle.std.proofs.Common.{◌≡◌, ℕ, zero, suc, ◌+◌, ◌-◌, ◌<◌, ◌≤◌, ◌==◌, Bool, true, false, List, [], ◌∷◌, ◌++◌, map, take, drop, length, get_or, reverse, Option, Some, None, slice_get, refl, sym, ap, ◌∙◌, arith}
use Rattle.std.specs.Prelude.{if◌then◌else◌}
use Rattle.std.proofs.lemmas.Bool.{eq-eqb, ne_eqb}
use Rattle.std.proofs.lemmas.List.{append-nil, append_assoc, drop_more, map_push, reverse-append, take_more}
use Rattle.std.proofs.lemmas.List.Elements.{filter_map-append}
use Rattle.std.proofs.lemmas.Grind.{flat_map-append}
use Rattle.std.specs.List.{cons_option, filter_map, flat_map}
use Rattle.wf_def.specs.Attribute.{class_of}
use Rattle.wf_def.specs.Definition.{Definition, LayerDefinition, LabelDefinition, FeatureDefinition}
use Rattle.wf_geometry.specs.Operation.{class_at}
use Rattle.wf_geometry.specs.View.{ViewValue}
use Rattle.wf_label.specs.Anchor.{anchor_of}
use Rattle.wf_label.specs.Label.{at_anchor, class_label, entry_labels, feature_label, label_of, labelled, labels_of, labels_up_to, layer_labels, of_priority, text_of}
use Rattle.wf_label.specs.Placed.{PlacedValue, placed_value, placed_values}
use Rattle.wf_label.specs.Walk.{CandidateValue, candidate_of, candidate_value, candidate_values, chosen, entry_candidates, if_of_priority, layer_candidates, walk, with_priority}
use Rattle.wf_label.specs.declared.feature_anchor.Anchor.{Anchor}
use Rattle.wf_label.specs.declared.label_order.Candidate.{Candidate}
use Rattle.wf_label.specs.declared.placed.Placed.{Placed}

-- ---- one feature

-- a text that isn't empty, at an anchor, is a label
pub with_priority-some : (label : LabelDefinition) (text : List ℕ) (anchor : Anchor) → 0 < length text →
    with_priority (Some label) text (Some anchor) ≡ Some (record { priority = label.priority; label = at_anchor label text anchor })
with_priority-some label [] anchor some = absurd (omega arith)
with_priority-some label (b ∷ text) anchor some = refl

-- the same, in parts
pub with_priority-at : (found : Option LabelDefinition) (label : LabelDefinition) (text : List ℕ) (somewhere : Option Anchor) (anchor : Anchor) (priority : ℕ) (placed : PlacedValue) →
    found ≡ Some label → somewhere ≡ Some anchor → 0 < length text → priority ≡ label.priority → placed ≡ at_anchor label text anchor →
    Some (record { priority = priority; label = placed }) ≡ with_priority found text somewhere
with_priority-at found label text somewhere anchor priority placed has there some same is = rw (has, there, same, is) (sym (with_priority-some label text anchor some))

pub with_priority-nowhere : (label : LabelDefinition) (text : List ℕ) → with_priority (Some label) text None ≡ None
with_priority-nowhere label [] = refl
with_priority-nowhere label (b ∷ text) = refl

pub with_priority-empty : (label : LabelDefinition) (text : List ℕ) (anchor : Option Anchor) → length text ≡ 0 → with_priority (Some label) text anchor ≡ None
with_priority-empty label [] anchor none = refl
with_priority-empty label (b ∷ text) anchor none = absurd (omega (arith, none))

-- ---- one list, item by item

module _ {X W Y : Type 0} (value : W → Y) (at_item : X → Option Y) (xs : List X) (i : ℕ) (x d : X) (within : i < length xs) (here : x ≡ get_or xs i d) where
  -- what one item more appends
  filter_map-more : filter_map at_item (take (i + 1) xs) ≡ filter_map at_item (take i xs) ++ cons_option (at_item x) []
  filter_map-more =
      ap (filter_map at_item) (take_more xs i d within) ∙ filter_map-append at_item (take i xs) (get_or xs i d ∷ [])
      ∙ ap (λ (y : X). filter_map at_item (take i xs) ++ cons_option (at_item y) []) (sym here)

  module _ (old : List Y) (found : List W) (so_far : map value found ≡ old ++ filter_map at_item (take i xs)) where
    -- the item appends nothing
    pub item_skipped : at_item x ≡ None → map value found ≡ old ++ filter_map at_item (take (i + 1) xs)
    item_skipped none =
        let same : filter_map at_item (take (i + 1) xs) ≡ filter_map at_item (take i xs) =
        filter_map-more ∙ ap (λ (o : Option Y). filter_map at_item (take i xs) ++ cons_option o []) none ∙ append-nil (filter_map at_item (take i xs)) in
        so_far ∙ ap (λ (rest : List Y). old ++ rest) (sym same)

    -- the item has a value, which is pushed
    pub item_pushed : (w : W) → at_item x ≡ Some (value w) → map value (found ++ w ∷ []) ≡ old ++ filter_map at_item (take (i + 1) xs)
    item_pushed w some =
        let more : filter_map at_item (take (i + 1) xs) ≡ filter_map at_item (take i xs) ++ value w ∷ [] =
        filter_map-more ∙ ap (λ (o : Option Y). filter_map at_item (take i xs) ++ cons_option o []) some in
        map_push value found w ∙ ap (λ (front : List Y). front ++ value w ∷ []) so_far
        ∙ append_assoc old (filter_map at_item (take i xs)) (value w ∷ [])
        ∙ ap (λ (rest : List Y). old ++ rest) (sym more)

-- ---- the layers from the last to the first

layers_more : {Y : Type 0} (labels_at : ℕ → List Y) (layers : List ℕ) (index d : ℕ) → 0 < index → index ≤ length layers →
    flat_map labels_at (reverse (drop (index - 1) layers)) ≡ flat_map labels_at (reverse (drop index layers)) ++ labels_at (get_or layers (index - 1) d)
layers_more {Y} labels_at layers index d some within =
    let next : index - 1 + 1 ≡ index = omega arith in
    let here : drop (index - 1) layers ≡ get_or layers (index - 1) d ∷ drop index layers =
    drop_more layers (index - 1) d (omega arith) ∙ ap (λ (n : ℕ). get_or layers (index - 1) d ∷ drop n layers) next in
    ap (λ (l : List ℕ). flat_map labels_at (reverse l)) here
    ∙ ap (flat_map labels_at) (reverse-append (get_or layers (index - 1) d ∷ []) (drop index layers))
    ∙ flat_map-append labels_at (reverse (drop index layers)) (get_or layers (index - 1) d ∷ [])
    ∙ ap (λ (l : List Y). flat_map labels_at (reverse (drop index layers)) ++ l) (append-nil (labels_at (get_or layers (index - 1) d)))

pub layer_pushed : {Y : Type 0} (labels_at : ℕ → List Y) (layers : List ℕ) (index d : ℕ) (old so_far after : List Y) → 0 < index → index ≤ length layers →
    so_far ≡ old ++ flat_map labels_at (reverse (drop index layers)) → after ≡ so_far ++ labels_at (get_or layers (index - 1) d) →
    after ≡ old ++ flat_map labels_at (reverse (drop (index - 1) layers))
layer_pushed {Y} labels_at layers index d old so_far after some within before pushed =
    pushed ∙ ap (λ (l : List Y). l ++ labels_at (get_or layers (index - 1) d)) before
    ∙ append_assoc old (flat_map labels_at (reverse (drop index layers))) (labels_at (get_or layers (index - 1) d))
    ∙ ap (λ (l : List Y). old ++ l) (sym (layers_more labels_at layers index d some within))

-- ---- one priority of what the walk met

abbrev if_some : ℕ → Option CandidateValue → Option PlacedValue
if_some priority None = None
if_some priority (Some candidate) = if_of_priority priority candidate

labelled-empty : (b : Bool) (label : LabelDefinition) (anchor : Option Anchor) → labelled (if b then Some label else None) [] anchor ≡ None
labelled-empty true label anchor = refl
labelled-empty false label anchor = refl

labelled-nowhere : (b : Bool) (label : LabelDefinition) (c : ℕ) (text : List ℕ) → labelled (if b then Some label else None) (c ∷ text) None ≡ None
labelled-nowhere true label c text = refl
labelled-nowhere false label c text = refl

labelled-some : (b : Bool) (label : LabelDefinition) (c : ℕ) (text : List ℕ) (anchor : Anchor) →
    labelled (if b then Some label else None) (c ∷ text) (Some anchor) ≡ (if b then Some (at_anchor label (c ∷ text) anchor) else None)
labelled-some true label c text anchor = refl
labelled-some false label c text anchor = refl

-- the label of a priority is the label of any priority, if its priority is that one
same_label : (priority : ℕ) (found : Option LabelDefinition) (text : List ℕ) (anchor : Option Anchor) →
    labelled (of_priority priority found) text anchor ≡ if_some priority (with_priority found text anchor)
same_label priority None text anchor = refl
same_label priority (Some label) [] anchor = labelled-empty (label.priority == priority) label anchor
same_label priority (Some label) (c ∷ text) None = labelled-nowhere (label.priority == priority) label c text
same_label priority (Some label) (c ∷ text) (Some anchor) = labelled-some (label.priority == priority) label c text anchor

feature_chosen : (view : ViewValue) (priority : ℕ) (layer : LayerDefinition) (feature : FeatureDefinition) →
    feature_label view priority layer feature ≡ if_some priority (candidate_of view layer feature)
unfolding feature_label label_of candidate_of
feature_chosen view priority layer feature =
    same_label priority (class_label (class_at layer (class_of layer feature))) (text_of layer feature) (anchor_of view feature.parts)

chosen-first : (priority : ℕ) (found : Option CandidateValue) (rest : List CandidateValue) →
    cons_option (if_some priority found) (chosen priority rest) ≡ chosen priority (cons_option found rest)
unfolding chosen
chosen-first priority None rest = refl
chosen-first priority (Some candidate) rest = refl

features_chosen : (view : ViewValue) (priority : ℕ) (layer : LayerDefinition) (features : List FeatureDefinition) →
    filter_map (feature_label view priority layer) features ≡ chosen priority (filter_map (candidate_of view layer) features)
unfolding chosen
features_chosen view priority layer [] = refl
features_chosen view priority layer (feature ∷ features) =
    let rest = features_chosen view priority layer features in
    ap (λ (o : Option PlacedValue). cons_option o (filter_map (feature_label view priority layer) features)) (feature_chosen view priority layer feature)
    ∙ ap (cons_option (if_some priority (candidate_of view layer feature))) rest
    ∙ chosen-first priority (candidate_of view layer feature) (filter_map (candidate_of view layer) features)

entry_chosen : (view : ViewValue) (priority : ℕ) (entry : Option (List ℕ × LayerDefinition)) → entry_labels view priority entry ≡ chosen priority (entry_candidates view entry)
unfolding chosen layer_labels layer_candidates
entry_chosen view priority None = refl
entry_chosen view priority (Some entry) = features_chosen view priority entry.1 entry.1.features

entries_chosen : (map : Definition) (view : ViewValue) (priority : ℕ) (layers : List ℕ) →
    flat_map (λ i. entry_labels view priority (slice_get map.layers i)) layers ≡ chosen priority (flat_map (λ i. entry_candidates view (slice_get map.layers i)) layers)
unfolding chosen
entries_chosen map view priority [] = refl
entries_chosen map view priority (i ∷ layers) =
    let here = entry_chosen view priority (slice_get map.layers i) in
    let rest = entries_chosen map view priority layers in
    ap (λ (l : List PlacedValue). l ++ flat_map (λ k. entry_labels view priority (slice_get map.layers k)) layers) here
    ∙ ap (λ (l : List PlacedValue). chosen priority (entry_candidates view (slice_get map.layers i)) ++ l) rest
    ∙ sym (filter_map-append (if_of_priority priority) (entry_candidates view (slice_get map.layers i)) (flat_map (λ k. entry_candidates view (slice_get map.layers k)) layers))

-- the labels of a priority are those of it that the walk met
pub priority_chosen : (map : Definition) (layers : List ℕ) (view : ViewValue) (priority : ℕ) → labels_of map layers view priority ≡ chosen priority (walk map layers view)
unfolding labels_of walk
priority_chosen map layers view priority = entries_chosen map view priority (reverse layers)

-- the same by the code's candidates
pub chosen_values : (priority : ℕ) (candidates : List Candidate) → chosen priority (candidate_values candidates) ≡ filter_map (λ c. if_of_priority priority (candidate_value c)) candidates
unfolding chosen
chosen_values priority [] = refl
chosen_values priority (c ∷ candidates) = ap (cons_option (if_of_priority priority (candidate_value c))) (chosen_values priority candidates)

-- one candidate more, of the priority or of another
module _ (priority : ℕ) (walked : List Candidate) (i : ℕ) (d : Candidate) (old : List PlacedValue) (labels : List Placed) (within : i < length walked)
    (so_far : placed_values labels ≡ old ++ filter_map (λ c. if_of_priority priority (candidate_value c)) (take i walked)) where
  pub candidate_pushed : (get_or walked i d).priority ≡ priority →
      placed_values (labels ++ (get_or walked i d).label ∷ []) ≡ old ++ filter_map (λ c. if_of_priority priority (candidate_value c)) (take (i + 1) walked)
  candidate_pushed same =
      let here : if_of_priority priority (candidate_value (get_or walked i d)) ≡ Some (placed_value (get_or walked i d).label) = rw (eq-eqb (get_or walked i d).priority priority same) refl in
      item_pushed placed_value (λ c. if_of_priority priority (candidate_value c)) walked i (get_or walked i d) d within refl old labels so_far (get_or walked i d).label here

  pub candidate_skipped : ((get_or walked i d).priority ≡ priority → ⊥) → placed_values labels ≡ old ++ filter_map (λ c. if_of_priority priority (candidate_value c)) (take (i + 1) walked)
  candidate_skipped other =
      let none : if_of_priority priority (candidate_value (get_or walked i d)) ≡ None = rw (ne_eqb (get_or walked i d).priority priority other) refl in
      item_skipped placed_value (λ c. if_of_priority priority (candidate_value c)) walked i (get_or walked i d) d within refl old labels so_far none

-- ---- all priorities, from the highest to the lowest

pub labels_up_to-none : (map : Definition) (layers : List ℕ) (view : ViewValue) → labels_up_to map layers view 0 ≡ []
unfolding labels_up_to
labels_up_to-none map layers view = refl

pub labels_up_to-more : (map : Definition) (layers : List ℕ) (view : ViewValue) (priority : ℕ) → 0 < priority →
    labels_up_to map layers view priority ≡ labels_of map layers view priority ++ labels_up_to map layers view (priority - 1)
unfolding labels_up_to
labels_up_to-more map layers view zero some = absurd (omega arith)
labels_up_to-more map layers view (suc priority) some = let lower : suc priority - 1 ≡ priority = omega arith in rw lower refl

-- the labels so far, and those of the lower priorities, are all
pub priority_pushed : (map : Definition) (layers : List ℕ) (view : ViewValue) (priority : ℕ) (so_far after all : List PlacedValue) → 0 < priority →
    so_far ++ labels_up_to map layers view priority ≡ all → after ≡ so_far ++ labels_of map layers view priority →
    after ++ labels_up_to map layers view (priority - 1) ≡ all
priority_pushed map layers view priority so_far after all some before pushed =
    ap (λ (l : List PlacedValue). l ++ labels_up_to map layers view (priority - 1)) pushed
    ∙ append_assoc so_far (labels_of map layers view priority) (labels_up_to map layers view (priority - 1))
    ∙ ap (λ (l : List PlacedValue). so_far ++ l) (sym (labels_up_to-more map layers view priority some))
    ∙ before
