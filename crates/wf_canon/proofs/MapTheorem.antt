-- What is written for a map, with its layers, is read as that map, whatever follows.
use Rattle.std.proofs.Common.{◌≡◌, ℕ, Bool, true, false, List, [], ◌∷◌, ◌++◌, length, Some, refl, ap, ◌∙◌}
use Rattle.std.specs.Prelude.{T, int_lt, codes, sum_by}
use Rattle.std.specs.List.{list_any, IsDistinct}
use Rattle.std.specs.Str.{bytes_eq}
use Rattle.std.proofs.lemmas.Cmp.{nat_list_eq_equiv}
use Rattle.std.proofs.lemmas.List.{map-append}
use Rattle.std.proofs.lemmas.List.Elements.{All-from_recursion}
use Rattle.wf_def.specs.Definition.{Definition}
use Rattle.wf_def.specs.Limits.{IsWithinLimits, IsLayer, IsLayerName, layer_names, points_of_feature}
use Rattle.wf_def.specs.Limit.{most_layers, most_features, most_points}
use Rattle.wf_def.specs.Extent.{ExtentValue, IsExtent}
use Rattle.wf_def.specs.declared.choice.Projection.{Projection}
use Rattle.wf_def.specs.declared.choice.Projection.TheVariants.{Epsg4326, Epsg3857}
use Rattle.wf_block.specs.Token.{Token, Word}
use Rattle.wf_block.specs.Grammar.{word, argument, text, end}
use Rattle.wf_mapfile.specs.Metadata.{pairs, all_differ, value_at, kept as kept_pairs, metadata}
use Rattle.wf_block.specs.Spelling.{tokens_of}
use Rattle.wf_mapfile.specs.declared.slots.Metadata as slots
use Rattle.wf_mapfile.specs.declared.slots.MapOnce.{MapOnce}
use Rattle.wf_mapfile.specs.declared.slots.MapSlots.{MapSlots}
use Rattle.wf_mapfile.specs.Web as webs
use Rattle.wf_mapfile.specs.Layer as layers
use Rattle.wf_mapfile.specs.Map as mapfile
use Rattle.wf_mapfile.specs.Map.{extent, projection, projection_named, definition}
use Rattle.wf_spelling.specs.Canon.{number_word, projection_text, with_key, end_line, layer_lines, projection_lines, web_lines, map_lines}
use Rattle.wf_canon.proofs.NumberWord.{number_word_is}
use Rattle.wf_canon.proofs.KnownText.{title_key, abstract_key, address_key, projection_is_text}
use Rattle.wf_canon.proofs.TokenTheorem.{written_text, text_again, number_again}
use Rattle.wf_canon.proofs.Steps.{Reads, inside, is_keyword, Fills, Ended, keyword, inner, line, both, ended, IsAt, each, holds_at, room_at, left_at, block_again}
use Rattle.wf_canon.proofs.LayerTheorem.{Entry, MayStandBehind, layer_again}

-- ---- the WEB block

-- the pairs of a map's METADATA, up to its END
abbrev map_pairs : Definition → List (List Token)
map_pairs d = with_key (codes "wms_title") d.title ∷ with_key (codes "wms_abstract") d.abstract_text ∷ with_key (codes "wms_onlineresource") d.address ∷ end_line ∷ []

abbrev kept_of : Definition → slots.Metadata
kept_of d = record { title = Some d.title; abstract_text = Some d.abstract_text; address = Some d.address }

metadata_again : (d : Definition) → IsWithinLimits d → Reads metadata (tokens_of (map_pairs d)) (kept_of d)
unfolding metadata pairs text argument end word is_keyword all_differ value_at kept_pairs
metadata_again d h = record {
  written = rw (title_key, written_text d.title h.title, abstract_key, written_text d.abstract_text h.abstract_text, address_key, written_text d.address h.address) refl;
  read = λ rest. rw (title_key, h.title, abstract_key, h.abstract_text, address_key, h.address) refl;
}

web_fills : (d : Definition) → IsWithinLimits d → Fills webs.web_put webs.no_settings (inside (web_lines d)) (Ended (record webs.no_settings { metadata = Some (kept_of d) }))
unfolding webs.web_put is_keyword
web_fills d h = inner (map_pairs d) (record webs.no_settings { metadata = Some (kept_of d) }) refl (metadata_again d h) (λ rest e. rw e refl) ended

web_again : (d : Definition) → IsWithinLimits d → Reads webs.web (tokens_of (inside (web_lines d))) (kept_of d)
unfolding webs.web
web_again d h = block_again (inside (web_lines d)) (web_fills d h) (λ rest e. rw e refl)

-- ---- the extent and the projection

less_is_true : (b : Bool) → T b → b ≡ true
less_is_true true h = refl
less_is_true false h = absurd h

extent_again : (e : ExtentValue) → IsExtent e → Reads extent (number_word e.minx ∷ number_word e.miny ∷ number_word e.maxx ∷ number_word e.maxy ∷ []) e
unfolding extent
extent_again e h =
    let wide : int_lt e.minx e.maxx ≡ true = less_is_true (int_lt e.minx e.maxx) h.wide.lt in
    let tall : int_lt e.miny e.maxy ≡ true = less_is_true (int_lt e.miny e.maxy) h.tall.lt in
    record {
      written = rw ((number_word_is e.minx h.minx).0, (number_word_is e.miny h.miny).0, (number_word_is e.maxx h.maxx).0, (number_word_is e.maxy h.maxy).0) refl;
      read = λ rest.
          rw (
            (number_again e.minx h.minx).read (number_word e.miny ∷ number_word e.maxx ∷ number_word e.maxy ∷ rest),
            (number_again e.miny h.miny).read (number_word e.maxx ∷ number_word e.maxy ∷ rest),
            (number_again e.maxx h.maxx).read (number_word e.maxy ∷ rest),
            (number_again e.maxy h.maxy).read rest,
            wide,
            tall,
          ) refl;
    }

projection_is_named : (p : Projection) → projection_named (projection_text p) ≡ Some p
unfolding projection_named
projection_is_named Epsg4326 = refl
projection_is_named Epsg3857 = refl

projection_again : (p : Projection) → Reads projection (tokens_of (inside (projection_lines p))) p
unfolding projection end word is_keyword
projection_again p =
    let read = text_again (projection_text p) (projection_is_text p) in
    record {
      written = rw (written_text (projection_text p) (projection_is_text p)) refl;
      read = λ rest. rw (read.read (Word (codes "END") ∷ rest), projection_is_named p) refl;
    }

-- ---- layers after those before them

-- a name differs from those before it
new_name : (before after : List (List ℕ)) (name : List ℕ) → IsDistinct bytes_eq (before ++ name ∷ after) → list_any (bytes_eq name) before ≡ false
unfolding IsDistinct
new_name [] after name differ = refl
new_name (first ∷ before) after name differ =
    let byte_offset : IsAt (before ++ name ∷ after) before name = record { after = after; is = refl } in
    let unlike : bytes_eq first name ≡ false =
    holds_at (λ other. bytes_eq first other ≡ false) byte_offset (All-from_recursion (λ other. bytes_eq first other ≡ false) (before ++ name ∷ after) differ.0) in
    rw (nat_list_eq_equiv.symm name first, unlike) (new_name before after name differ.1)

may_stand : {before : List Entry} {entry : Entry} (d : Definition) → IsWithinLimits d → IsAt d.layers before entry → MayStandBehind before entry
unfolding layers.features_left layers.points_left
may_stand {before = before} {entry = entry} d h byte_offset =
    let names : layer_names d.layers ≡ layer_names before ++ entry.0 ∷ layer_names byte_offset.after = ap layer_names byte_offset.is ∙ map-append (λ entry. entry.0) before (entry ∷ byte_offset.after) in
    record {
      name = holds_at (λ entry. IsLayerName entry.0) byte_offset h.names;
      layer = holds_at (λ entry. IsLayer entry.1) byte_offset h.layers;
      new = new_name (layer_names before) (layer_names byte_offset.after) entry.0 (rw names at h.unlike_names);
      features = left_at (λ entry. length entry.1.features) most_features byte_offset h.features_most;
      points = left_at (λ entry. sum_by points_of_feature entry.1.features) most_points byte_offset h.points_most;
    }

-- ---- all of it

abbrev map_settings : Definition → MapOnce
map_settings d = record mapfile.no_map_once { name = Some d.name; extent = Some d.extent; projection = Some d.projection; web = Some (kept_of d) }

map_fills : (d : Definition) → IsWithinLimits d → Fills mapfile.map_put mapfile.no_map (inside (map_lines d)) (Ended (record { layers = d.layers; single = map_settings d }))
unfolding mapfile.map_put mapfile.map_once is_keyword
map_fills d h =
    let settings : MapOnce → MapSlots = λ x. record { layers = []; single = x } in
    let named : MapOnce = record mapfile.no_map_once { name = Some d.name } in
    let placed : MapOnce = record named { extent = Some d.extent } in
    let projected : MapOnce = record placed { projection = Some d.projection } in
    let layered : List Entry → MapSlots = λ ls. record { layers = ls; single = map_settings d } in
    line (settings named) refl (text_again d.name h.name) (λ rest e. rw e refl)
    (line (settings placed) refl (extent_again d.extent h.extent) (λ rest e. rw e refl)
    (inner (inside (projection_lines d.projection)) (settings projected) refl (projection_again d.projection) (λ rest e. rw e refl)
    (inner (inside (web_lines d)) (layered []) refl (web_again d h) (λ rest e. rw e refl)
    (both (layered d.layers)
    (each layer_lines layered [] d.layers (λ before entry byte_offset. keyword refl (layer_again before entry (may_stand d h byte_offset)) (λ rest e. rw (room_at most_layers byte_offset h.layers_most, e) refl)))
    ended))))

pub map_again : (d : Definition) → IsWithinLimits d → Reads mapfile.map (tokens_of (inside (map_lines d))) d
unfolding mapfile.map mapfile.map_of definition
map_again d h = block_again (inside (map_lines d)) (map_fills d h) (λ rest e. rw e refl)
