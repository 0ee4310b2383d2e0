-- What is written for a layer, with its classes and its features, is read as that layer, whatever
-- follows.
use Rattle.std.proofs.Common.{◌≡◌, ℕ, zero, suc, ◌+◌, ◌-◌, ◌<◌, ◌≤◌, leb, true, false, List, [], ◌∷◌, ◌++◌, length, get_or, Some, None, refl, ap, ◌∙◌, append_assoc, length-append, arith}
use Rattle.std.specs.Prelude.{codes, map, sum_by}
use Rattle.std.specs.List.{list_all, AllByRecursion}
use Rattle.std.proofs.lemmas.Bool.{lt-ltb, le-leb}
use Rattle.std.proofs.lemmas.List.{append-nil}
use Rattle.std.proofs.lemmas.List.Elements.{recursion_from_All}
use Rattle.std.proofs.lemmas.List.Sums.{list_all-from_AllPass}
use Rattle.wf_def.specs.Definition.{ClassDefinition, FeatureDefinition, LayerDefinition}
use Rattle.wf_def.specs.Layer as definitions
use Rattle.wf_def.specs.Limits.{IsPoint, IsPart, IsClass, IsFeature, IsLayer, IsLayerName, HasEnoughPoints, least_points, has_layer, points_of_feature}
use Rattle.wf_def.specs.Text.{IsText}
use Rattle.wf_def.specs.Limit.{most_classes, most_items_bytes}
use Rattle.wf_def.specs.declared.point.Point.{Point}
use Rattle.wf_def.specs.declared.choice.LayerKind.{LayerKind}
use Rattle.wf_def.specs.declared.choice.LayerKind.TheVariants.{Points, Lines, Polygons}
use Rattle.wf_block.specs.Token.{Token, Word, Quoted}
use Rattle.wf_block.specs.Spelling.{is_written, tokens_of}
use Rattle.wf_block.specs.Grammar.{is_end, word, argument, text, end}
use Rattle.wf_mapfile.specs.Metadata.{pairs, all_differ, value_at, kept as kept_pairs, metadata}
use Rattle.wf_mapfile.specs.declared.slots.Metadata.{Metadata}
use Rattle.wf_mapfile.specs.FeatureSlots.{FeatureSlots}
use Rattle.wf_mapfile.specs.declared.slots.LayerOnce.{LayerOnce}
use Rattle.wf_mapfile.specs.declared.slots.LayerSlots.{LayerSlots}
use Rattle.wf_mapfile.specs.Feature as features
use Rattle.wf_mapfile.specs.Layer as layers
use Rattle.wf_spelling.specs.Canon.{number_word, kind_word, end_line, point_line, part_lines, feature_lines, class_lines, metadata_lines, layer_lines}
use Rattle.wf_canon.proofs.NumberWord.{number_word_is}
use Rattle.wf_canon.proofs.TokenTheorem.{written_text, text_again, number_again, chosen_again}
use Rattle.wf_canon.proofs.Steps.{Reads, inside, is_keyword, Fills, Ended, keyword, inner, line, both, ended, each, holds_at, room_at, left_at, block_again}
use Rattle.wf_canon.proofs.KnownText.{title_key, items_is_text}
use Rattle.wf_canon.proofs.ClassTheorem.{class_again}

abbrev pub Entry : Type 0
Entry = List ℕ × LayerDefinition

-- ---- points

point_again : (p : Point) → IsPoint p → Reads features.point (point_line p) p
unfolding features.point
point_again p h = record {
  written = rw ((number_word_is p.x h.x).0, (number_word_is p.y h.y).0) refl;
  read = λ rest. rw ((number_again p.x h.x).read (number_word p.y ∷ rest), (number_again p.y h.y).read rest) refl;
}

points_end : (most : ℕ) (done : List Point) (left : ℕ) (rest : List Token) → features.points_behind most done (suc left) (Word (codes "END") ∷ rest) ≡ Some (done, rest)
unfolding features.points_behind end word is_end
points_end most done left rest = refl

one_point_more : (most : ℕ) (done : List Point) (p : Point) (left : ℕ) (tokens : List Token) → IsPoint p → length done < most
    → features.points_behind most done (suc left) (number_word p.x ∷ number_word p.y ∷ tokens) ≡ features.points_behind most (done ++ p ∷ []) left tokens
unfolding features.points_behind end word
one_point_more most done p left tokens h room = rw ((number_word_is p.x h.x).1, lt-ltb (length done) most room, (point_again p h).read tokens) refl

-- points after those so far, at most n in all
points_in : (most : ℕ) (done part : List Point) (left : ℕ) (rest : List Token) → AllByRecursion IsPoint part → length done + length part ≤ most → length part < left
    → features.points_behind most done left (tokens_of (map point_line part ++ end_line ∷ []) ++ rest) ≡ Some (done ++ part, rest)
points_in most done part zero rest h room few = absurd (omega arith)
points_in most done [] (suc left) rest h room few = rw (append-nil done) (points_end most done left rest)
points_in most done (p ∷ part) (suc left) rest h room few =
    one_point_more most done p left (tokens_of (map point_line part ++ end_line ∷ []) ++ rest) h.0 (omega arith)
    ∙ points_in most (done ++ p ∷ []) part left rest h.1 (omega (arith, length-append done (p ∷ []))) (omega arith)
    ∙ ap (λ (ps : List Point). Some (ps, rest)) (append_assoc done (p ∷ []) part)

-- a point is more than one token
enough_for : (part : List Point) (rest : List Token) → length part < length (tokens_of (map point_line part ++ end_line ∷ []) ++ rest)
enough_for [] rest = omega arith
enough_for (p ∷ part) rest = let others = enough_for part rest in omega (arith, others)

points_written : (part : List Point) → AllByRecursion IsPoint part → list_all is_written (tokens_of (map point_line part ++ end_line ∷ [])) ≡ true
unfolding is_keyword
points_written [] h = refl
points_written (p ∷ part) h = rw ((number_word_is p.x h.0.x).0, (number_word_is p.y h.0.y).0) (points_written part h.1)

part_again : (most : ℕ) (part : List Point) → IsPart part → length part ≤ most → Reads (features.points most) (tokens_of (inside (part_lines part))) part
unfolding features.points
part_again most part h room =
    let each = recursion_from_All IsPoint part h in
    record {
      written = points_written part each;
      read = λ rest. points_in most [] part (length (tokens_of (inside (part_lines part)) ++ rest)) rest each (omega arith) (enough_for part rest);
    }

-- ---- features

feature_fills : (most : ℕ) (f : FeatureDefinition) → IsFeature f → points_of_feature f ≤ most
    → Fills (features.feature_put most) features.no_feature (inside (feature_lines f)) (Ended (record { parts = f.parts; single = record { items = Some f.items; text = Some f.text } }))
unfolding features.feature_put features.feature_once is_keyword
feature_fills most f h room =
    let shaped : List (List Point) → FeatureSlots = λ parts. record { parts = parts; single = record { items = Some f.items; text = Some f.text } } in
    line (record { parts = []; single = record { items = Some f.items; text = None } }) refl (text_again f.items h.items) (λ rest e. rw e refl)
    (line (shaped []) refl (text_again f.text h.text) (λ rest e. rw e refl)
    (both (shaped f.parts)
    (each part_lines shaped [] f.parts (λ before part byte_offset.
    keyword refl (part_again (most - sum_by length before) part (holds_at IsPart byte_offset h.parts) (left_at length most byte_offset room)) (λ rest e. rw e refl)))
    ended))

-- a feature is read if at least as many points may come as it has
pub feature_again : (most : ℕ) (f : FeatureDefinition) → IsFeature f → points_of_feature f ≤ most → Reads (features.feature most) (tokens_of (inside (feature_lines f))) f
unfolding features.feature features.feature_of definitions.feature_of
feature_again most f h room = block_again (inside (feature_lines f)) (feature_fills most f h room) (λ rest e. rw (e, lt-ltb 0 (length f.parts) h.parts_least) refl)

-- ---- layers

name_again : (others : List Entry) (name : List ℕ) → IsLayerName name → has_layer others name ≡ false → Reads (layers.new_name others) (Quoted name ∷ []) name
unfolding layers.new_name layers.layer_name layers.is_layer_name
name_again others name h new =
    let read = text_again name h.is_text in
    record { written = read.written; read = λ rest. rw (read.read rest, lt-ltb 0 (length name) h.least, h.no_comma, new) refl }

kind_again : (k : LayerKind) → Reads layers.layer_kind (Word (kind_word k) ∷ []) k
unfolding layers.layer_kind is_keyword
kind_again Points = chosen_again layers.layer_kinds (codes "POINT") Points refl refl
kind_again Lines = chosen_again layers.layer_kinds (codes "LINE") Lines refl refl
kind_again Polygons = chosen_again layers.layer_kinds (codes "POLYGON") Polygons refl refl

names_again : (names : List ℕ) → IsText names → length names ≤ most_items_bytes → Reads layers.processing (Quoted (codes "ITEMS=" ++ names) ∷ []) names
unfolding layers.processing
names_again names h most =
    let read = text_again (codes "ITEMS=" ++ names) (items_is_text names h most) in
    record { written = read.written; read = λ rest. rw (read.read rest) refl }

abbrev title_only : List ℕ → Metadata
title_only title = record { title = Some title; abstract_text = None; address = None }

title_again : (title : List ℕ) → IsText title → Reads metadata (tokens_of (inside (metadata_lines title))) (title_only title)
unfolding metadata pairs text argument end word is_keyword all_differ value_at kept_pairs
title_again title h = record { written = rw (title_key, written_text title h) refl; read = λ rest. rw (title_key, h) refl }

-- a layer that may follow these: its name differs from theirs, and the map may still have its
-- features and their points
pub record MayStandBehind (others : List Entry) (entry : Entry) : Type 0 where
  pub name : IsLayerName entry.0
  pub layer : IsLayer entry.1
  pub new : has_layer others entry.0 ≡ false
  pub features : length entry.1.features ≤ layers.features_left others
  pub points : sum_by points_of_feature entry.1.features ≤ layers.points_left others

abbrev layer_settings : Entry → LayerOnce
layer_settings entry = let l = entry.1 in record layers.no_layer_once {
  name = Some entry.0;
  kind = Some l.kind;
  class_item = Some l.class_item;
  label_item = Some l.label_item;
  items = Some l.items;
  metadata = Some (title_only l.title);
}

layer_fills : (others : List Entry) (entry : Entry) → MayStandBehind others entry
    → Fills (layers.layer_put others) layers.no_layer (inside (layer_lines entry)) (Ended (record { classes = entry.1.classes; features = entry.1.features; single = layer_settings entry }))
unfolding layers.layer_put layers.layer_once is_keyword
layer_fills others entry may =
    let l = entry.1 in
    let h = may.layer in
    let settings : LayerOnce → LayerSlots = λ x. record layers.no_layer { single = x } in
    let named : LayerOnce = record layers.no_layer_once { name = Some entry.0 } in
    let typed : LayerOnce = record named { kind = Some l.kind } in
    let classed : LayerOnce = record typed { class_item = Some l.class_item } in
    let labelled : LayerOnce = record classed { label_item = Some l.label_item } in
    let listed : LayerOnce = record labelled { items = Some l.items } in
    let drawn : List ClassDefinition → LayerSlots = λ cs. record { classes = cs; features = []; single = layer_settings entry } in
    let shaped : List FeatureDefinition → LayerSlots = λ fs. record { classes = l.classes; features = fs; single = layer_settings entry } in
    line (settings named) refl (name_again others entry.0 may.name may.new) (λ rest e. rw e refl)
    (line (settings typed) refl (kind_again l.kind) (λ rest e. rw e refl)
    (line (settings classed) refl (text_again l.class_item h.class_item) (λ rest e. rw e refl)
    (line (settings labelled) refl (text_again l.label_item h.label_item) (λ rest e. rw e refl)
    (line (settings listed) refl (names_again l.items h.items h.items_most) (λ rest e. rw e refl)
    (inner (inside (metadata_lines l.title)) (drawn []) refl (title_again l.title h.title) (λ rest e. rw e refl)
    (both (shaped l.features)
    (both (drawn l.classes)
    (each class_lines drawn [] l.classes (λ before c byte_offset. keyword refl (class_again c (holds_at IsClass byte_offset h.classes)) (λ rest e. rw (room_at most_classes byte_offset h.classes_most, e) refl)))
    (each feature_lines shaped [] l.features (λ before f byte_offset.
    let most = layers.points_left others in
    keyword refl (feature_again (most - sum_by points_of_feature before) f (holds_at IsFeature byte_offset h.features) (left_at points_of_feature most byte_offset may.points))
    (λ rest e. rw (room_at (layers.features_left others) byte_offset may.features, e) refl))))
    ended))))))

enough_points : (kind : LayerKind) (f : FeatureDefinition) → HasEnoughPoints kind f → definitions.has_enough_points kind f ≡ true
enough_points kind f h = list_all-from_AllPass (λ part. leb (least_points kind) (length part)) f.parts (λ k d below. le-leb _ _ (h k d below))

pub layer_again : (others : List Entry) (entry : Entry) → MayStandBehind others entry → Reads (layers.layer others) (tokens_of (inside (layer_lines entry))) entry
unfolding layers.layer layers.layer_of definitions.layer_of
layer_again others entry may =
    let l = entry.1 in
    let h = may.layer in
    let shapes : list_all (definitions.has_enough_points l.kind) l.features ≡ true =
    list_all-from_AllPass (definitions.has_enough_points l.kind) l.features (λ k d below. enough_points l.kind (get_or l.features k d) (h.shapes k d below)) in
    block_again (inside (layer_lines entry)) (layer_fills others entry may) (λ rest e. rw (e, le-leb (length l.items) most_items_bytes h.items_most, shapes) refl)
