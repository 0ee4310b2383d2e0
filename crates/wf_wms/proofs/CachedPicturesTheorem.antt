-- Kept pictures: each stays the picture of its key, and what is cut out of it is the requested
-- image.
use Rattle.std.proofs.Common.{◌≡◌, ◌∙◌, ◌<◌, ◌≤◌, ◌-◌, ap, refl, sym, subst, subst₂, ℕ, zero, suc, nat_eq, ◌&&◌, Bool, true, false, cond, inl, inr, List, [], ◌∷◌, ◌++◌, length, take, ℤ, arith}
use Rattle.std.specs.Prelude.{Option, Some, None, IfNone, IfSome, IsSome, OnSome, Contains, slice_get, option_copied, Result, Ok, Err, OnOk, OnErr, is_ok}
use Rattle.std.specs.List.{All}
use Rattle.std.specs.Map.{lookup, lookup_entry, remove_entry}
use Rattle.std.specs.Option.{option_map_or}
use Rattle.std.specs.Ordering.{int_eq}
use Rattle.std.specs.Str.{bytes_eq}
use Rattle.std.proofs.lemmas.Bool.{and_parts}
use Rattle.std.proofs.lemmas.Bool.Decides.{Decides-eqb, Decides-int_eq, nat_tests}
use Rattle.std.proofs.lemmas.Slice.Eq.{bytes_eq-Decides}
use Rattle.std.proofs.lemmas.Option.{same_Some}
use denote.Ref.{Bor}
use Rattle.lru.specs.LruCache.{LruCache, lru_cache, promoted, put_entries}
use Rattle.lru.proofs.CallerLemmas.{Contains-lookup, Contains-promoted, Contains-take}
use Rattle.lru.proofs.Splits.{Contains-cons, Contains-nil}
use Rattle.wf_def.specs.Definition.{Definition}
use Rattle.wf_def.specs.Extent.{ExtentValue}
use Rattle.wf_def.specs.declared.color.Color.{Color}
use Rattle.wf_learner.specs.History.{map_at}
use Rattle.wf_model.specs.DurableState.{definition_at}
use Rattle.wf_geometry.specs.Grid.{fits}
use Rattle.wf_geometry.specs.Limit.{most_pixels, tile_pixels}
use Rattle.wf_paint.specs.Pixmap.{PixmapValue, IsPicture}
use Rattle.wf_geometry.specs.Tile.{tile_view}
use Rattle.wf_geometry.specs.View.{ViewValue}
use Rattle.wf_geometry.specs.declared.grid.GridCell.{GridCell}
use Rattle.wf_picture.specs.Picture.{labelled, IsViewFor, IsPartOfView}
use Rattle.wf_picture.specs.Request.{RequestValue}
use Rattle.wf_picture.specs.Tiles.{ShareAView, SharedViewsHaveOnePicture}
use Rattle.wf_picture.specs.declared.request.Size.{Size}
use Rattle.wf_wms.specs.Answer.{AnswerValue, picture_answer}
use Rattle.wf_wms.specs.Plan.{IsPictureAskedOf, IsPictureFor, wanted_in}
use Rattle.wf_wms.specs.CachedPictures.{AllCached, CacheValue, GrowthKeepsAll, IsNextCache, IsCacheAfter, IsCellOf, IsDrawn, IsCached, IsRequestOf, IsCutFromCache, IsTileAt, IsTileOf, IsUnkept, IsUsed, background_of, cache_of, entry_of, others, risen, tile_size}
use Rattle.wf_wms.specs.Requested.{Wanted, requested}
use Rattle.wf_wms.specs.contracts.cache.KeyPartialEq.TheImpl as keys
use Rattle.wf_wms.specs.declared.plan.QueriedPicture.{QueriedPicture}
use Rattle.wf_wms.specs.declared.plan.Plan.{Plan}
use Rattle.wf_wms.specs.declared.plan.Plan.TheVariants.{Ready, Picture}
use Rattle.wf_wms.specs.declared.cache.Key.{Key}

-- ---- a history that grows

same_index : {X : Type 0} (xs more : List X) (k : ℕ) (x : X) → slice_get xs k ≡ Some x → slice_get (xs ++ more) k ≡ Some x
same_index [] more k x there = cc
same_index (y ∷ xs) more zero x there = there
same_index (y ∷ xs) more (suc k) x there = same_index xs more k x there

same_map : (history more : List Definition) (s : ℕ) (map : Definition) → map_at history s ≡ Some map → map_at (history ++ more) s ≡ Some map
unfolding map_at definition_at
same_map history more zero map there = there
same_map history more (suc k) map there = same_index history more k map there

pub growth_keeps : GrowthKeepsAll
unfolding AllCached
growth_keeps history more cache cached key p there =
    let is = cached key p there in
    record { map = is.map; is_published = same_map history more key.sequence is.map is.is_published; shows = is.shows }

-- ---- keys

-- keys that name one picture
pub record SameKey (key other : Key) : Type 0 where
  pub sequence : key.sequence ≡ other.sequence
  pub layers : key.layers.items ≡ other.layers.items
  pub background : background_of key ≡ background_of other
  pub level : key.level ≡ other.level
  pub column : key.column ≡ other.column
  pub row : key.row ≡ other.row

cached_under : (history : List Definition) (key other : Key) (p : PixmapValue) → SameKey key other → IsCached history other p → IsCached history key p
cached_under history key other p same cached = record {
  map = cached.map;
  is_published = ap (map_at history) same.sequence ∙ cached.is_published;
  shows = λ cell is_cell.
      let other_cell : IsCellOf other cell = record { level = is_cell.level ∙ same.level; column = is_cell.column ∙ same.column; row = is_cell.row ∙ same.row } in
      subst₂ (λ (l : List ℕ) (b : Color). IsPicture most_pixels most_pixels (labelled cached.map l (tile_view cached.map.extent cell) b) p) (sym same.layers) (sym same.background)
      (cached.shows cell other_cell);
}

-- the derived equality of two keys
abbrev pub eq : Key → Key → Bool
eq = (keys.ghosts).eq

same_number : (x y : ℕ) → nat_eq x y ≡ true → x ≡ y
same_number x y = (Decides-eqb x y).0

same_whole : (x y : ℤ) → int_eq x y ≡ true → x ≡ y
same_whole x y = (Decides-int_eq x y).0

module _ (key other : Key) where
  abbrev sequences : Bool
  sequences = nat_eq key.sequence other.sequence

  abbrev layerings : Bool
  layerings = bytes_eq key.layers.items other.layers.items

  abbrev reds : Bool
  reds = nat_eq key.red other.red

  abbrev greens : Bool
  greens = nat_eq key.green other.green

  abbrev blues : Bool
  blues = nat_eq key.blue other.blue

  abbrev levels : Bool
  levels = nat_eq key.level other.level

  abbrev columns : Bool
  columns = int_eq key.column other.column

  abbrev rows : Bool
  rows = int_eq key.row other.row

  joined : sequences ≡ true → layerings ≡ true → reds ≡ true → greens ≡ true → blues ≡ true → levels ≡ true → columns ≡ true → rows ≡ true → SameKey key other
  joined sequence layers red green blue level column row =
      let of_red = same_number key.red other.red red in
      let of_green = same_number key.green other.green green in
      let of_blue = same_number key.blue other.blue blue in
      record {
        sequence = same_number key.sequence other.sequence sequence;
        layers = (bytes_eq-Decides key.layers.items other.layers.items).0 layers;
        background = λ i. record { r = of_red i; g = of_green i; b = of_blue i };
        level = same_number key.level other.level level;
        column = same_whole key.column other.column column;
        row = same_whole key.row other.row row;
      }

  from_parts : (sequences && (layerings && (reds && (greens && (blues && (levels && (columns && rows))))))) ≡ true → SameKey key other
  from_parts test =
      let p1 = and_parts sequences (layerings && (reds && (greens && (blues && (levels && (columns && rows)))))) test in
      let p2 = and_parts layerings (reds && (greens && (blues && (levels && (columns && rows))))) p1.1 in
      let p3 = and_parts reds (greens && (blues && (levels && (columns && rows)))) p2.1 in
      let p4 = and_parts greens (blues && (levels && (columns && rows))) p3.1 in
      let p5 = and_parts blues (levels && (columns && rows)) p4.1 in
      let p6 = and_parts levels (columns && rows) p5.1 in
      let p7 = and_parts columns rows p6.1 in
      joined p1.0 p2.0 p3.0 p4.0 p5.0 p6.0 p7.0 p7.1

  pub same_key : eq key other ≡ true → SameKey key other
  same_key test = from_parts test

-- ---- look-ups by a test of the key

module _ {K V : Type 0} (test : K → Bool) where
  some_entry : (es : List (K × V)) (v : V) → lookup test es ≡ Some v → IsSome (lookup_entry test es)
  some_entry [] v found = cc
  some_entry (e ∷ es) v found = (elim (test e.0) as (λ (y : Bool). cond y (Some e.1) (lookup test es) ≡ Some v → IsSome (cond y (Some e) (lookup_entry test es))) [
    | true ↦ λ _. refl
    | false ↦ λ later. some_entry es v later
  ]) found

  no_entry : (es : List (K × V)) → lookup test es ≡ None → lookup_entry test es ≡ None
  no_entry [] none = refl
  no_entry (e ∷ es) none = (elim (test e.0) as (λ (y : Bool). cond y (Some e.1) (lookup test es) ≡ None → cond y (Some e) (lookup_entry test es) ≡ None) [
    | true ↦ λ there. cc
    | false ↦ λ later. no_entry es later
  ]) none

there_is : {X : Type 0} (o : Option X) → IsSome o → (x : X) × (o ≡ Some x)
there_is None some = cc
there_is (Some x) some = (x, refl)

module _ (key : Key) (es : List (Key × PixmapValue)) where
  pub found_there : (found : Option (Bor PixmapValue)) → option_copied found ≡ lookup (eq key) es → OnSome found (IsSome (entry_of key es))
  unfolding entry_of
  found_there None is = tt
  found_there (Some pixmap) is = some_entry (eq key) es pixmap.now (sym is)

  pub found_absent : (found : Option (Bor PixmapValue)) → option_copied found ≡ lookup (eq key) es → IfNone found (entry_of key es ≡ None)
  unfolding entry_of
  found_absent None is = no_entry (eq key) es (sym is)
  found_absent (Some pixmap) is = tt

  -- a promoted entry goes first
  promoted_first : (entry : Key × PixmapValue) → entry_of key es ≡ Some entry → promoted (eq key) es ≡ entry ∷ others key es
  unfolding entry_of others
  promoted_first entry there = ap (λ (o : Option (Key × PixmapValue)). option_map_or (λ e. e ∷ remove_entry (eq key) es) o es) there

  -- a new entry goes first
  new_first : (cap : ℕ) (p : PixmapValue) → entry_of key es ≡ None → put_entries eq (lru_cache es cap) key p ≡ (key, p) ∷ take (cap - 1) es
  unfolding entry_of
  new_first cap p absent =
      ap (λ (o : Option (Key × PixmapValue)). option_map_or (λ e. (e.0, p) ∷ remove_entry (eq key) es) o ((key, p) ∷ take (cap - 1) es)) absent

-- ---- what becomes of the cache

module _ (key : Key) (cached after : LruCache Key PixmapValue) (drawings taken unkept next : ℕ) where
  taken_from : IsSome (entry_of key cached.entries) → after ≡ lru_cache (promoted (eq key) cached.entries) cached.cap → next ≡ risen taken →
      IsCutFromCache key (cache_of cached drawings taken unkept) (cache_of after drawings next unkept)
  taken_from some promotes counts =
      let there = there_is (entry_of key cached.entries) some in
      let first : after.entries ≡ there.0 ∷ others key cached.entries = ap (λ (c : LruCache Key PixmapValue). c.entries) promotes ∙ promoted_first key cached.entries there.0 there.1 in
      let room : after.cap ≡ cached.cap = ap (λ (c : LruCache Key PixmapValue). c.cap) promotes in
      record {
        entry = there.0;
        is_cached = there.1;
        goes_first = λ i. record { entries = first i; cap = room i; drawings = drawings; taken = counts i; unkept = unkept };
      }

  pub taken_of : (old : CacheValue) → cache_of cached drawings taken unkept ≡ old → IsSome (entry_of key old.entries) →
      after ≡ lru_cache (promoted (eq key) cached.entries) cached.cap → next ≡ risen taken → IsCutFromCache key old (cache_of after drawings next unkept)
  taken_of old is some promotes counts =
      subst (λ (c : CacheValue). IsCutFromCache key c (cache_of after drawings next unkept)) is
      (taken_from (subst (λ (c : CacheValue). IsSome (entry_of key c.entries)) (sym is) some) promotes counts)

module _ (key : Key) (p : PixmapValue) (cached after : LruCache Key PixmapValue) (drawings taken unkept next : ℕ) (old : CacheValue) (is : cache_of cached drawings taken unkept ≡ old)
    (absent : entry_of key old.entries ≡ None) (counts : next ≡ risen drawings) where
  absent_before : entry_of key cached.entries ≡ None
  absent_before = subst (λ (c : CacheValue). entry_of key c.entries ≡ None) (sym is) absent

  drawn_from : after ≡ lru_cache ((key, p) ∷ take (cached.cap - 1) cached.entries) cached.cap →
      IsDrawn key (cache_of cached drawings taken unkept) (cache_of after next taken unkept)
  drawn_from puts =
      let first : after.entries ≡ (key, p) ∷ take (cached.cap - 1) cached.entries = ap (λ (c : LruCache Key PixmapValue). c.entries) puts in
      let room : after.cap ≡ cached.cap = ap (λ (c : LruCache Key PixmapValue). c.cap) puts in
      record {
        is_absent = absent_before;
        picture = p;
        goes_first = λ i. record { entries = first i; cap = room i; drawings = counts i; taken = taken; unkept = unkept };
      }

  pub drawn_first : after ≡ lru_cache ((key, p) ∷ take (cached.cap - 1) cached.entries) cached.cap → IsUsed key old (cache_of after next taken unkept)
  drawn_first puts = inr (inl (subst (λ (c : CacheValue). IsDrawn key c (cache_of after next taken unkept)) is (drawn_from puts)))

  unkept_from : (last : ℕ) → after ≡ cached → last ≡ risen unkept → IsUnkept key (cache_of cached drawings taken unkept) (cache_of after next taken last)
  unkept_from last same counts_too =
      let first : after.entries ≡ cached.entries = ap (λ (c : LruCache Key PixmapValue). c.entries) same in
      let room : after.cap ≡ cached.cap = ap (λ (c : LruCache Key PixmapValue). c.cap) same in
      record {
        is_absent = absent_before;
        entries_stay = λ i. record { entries = first i; cap = room i; drawings = counts i; taken = taken; unkept = counts_too i };
      }

  pub drawn_unkept : (last : ℕ) → after ≡ cached → last ≡ risen unkept → IsUsed key old (cache_of after next taken last)
  drawn_unkept last same counts_too = inr (inr (subst (λ (c : CacheValue). IsUnkept key c (cache_of after next taken last)) is (unkept_from last same counts_too)))

-- ---- the entries are pictures of their keys

pub none_cached : (history : List Definition) (cache : CacheValue) → cache.entries ≡ [] → AllCached history cache
unfolding AllCached
none_cached history cache none key p there = absurd (Contains-nil (key, p) (subst (λ (es : List (Key × PixmapValue)). Contains es (key, p)) none there))

-- a cache with these entries
pub cached_with : (history : List Definition) (old new : CacheValue) → new.entries ≡ old.entries → AllCached history old → AllCached history new
unfolding AllCached
cached_with history old new same cached key p there = cached key p (subst (λ (es : List (Key × PixmapValue)). Contains es (key, p)) same there)

module _ (history : List Definition) (cache : CacheValue) where
  found_cached : (key : Key) (p : PixmapValue) → lookup (eq key) cache.entries ≡ Some p → AllCached history cache → IsCached history key p
  unfolding AllCached
  found_cached key p found cached =
      let entry = Contains-lookup (eq key) cache.entries p found in
      cached_under history key entry.0 p (same_key key entry.0 entry.2) (cached entry.0 p entry.1)

  pub touched_cached : (key : Key) (new : CacheValue) → new.entries ≡ promoted (eq key) cache.entries → AllCached history cache → AllCached history new
  unfolding AllCached
  touched_cached key new promotes cached other p there =
      cached other p (Contains-promoted (eq key) cache.entries (other, p) (subst (λ (es : List (Key × PixmapValue)). Contains es (other, p)) promotes there))

  pub put_cached : (key : Key) (p : PixmapValue) (new : CacheValue) (room : ℕ) → new.entries ≡ (key, p) ∷ take room cache.entries → AllCached history cache → IsCached history key p →
      AllCached history new
  unfolding AllCached
  put_cached key p new room puts cached is other q there =
      elim (Contains-cons (key, p) (take room cache.entries) (other, q) (subst (λ (es : List (Key × PixmapValue)). Contains es (other, q)) puts there)) [
        | inl same ↦ subst (λ (e : Key × PixmapValue). IsCached history e.0 e.1) same is
        | inr was ↦ cached other q (Contains-take room cache.entries (other, q) was)
      ]

pub found_in : (cache : CacheValue) (key : Key) (found : Option (Bor PixmapValue)) → option_copied found ≡ lookup (eq key) cache.entries →
    IfSome found (λ pixmap. (history : List Definition) → AllCached history cache → IsCached history key pixmap.now)
found_in cache key None is = tt
found_in cache key (Some pixmap) is = λ history cached. found_cached history cache key pixmap.now (sym is) cached

-- ---- a put that succeeded, and one that didn't

module _ {X E : Type 0} {P : Type 0} where
  pub on_success : (result : Result X E) → OnOk result P → is_ok result ≡ true → P
  on_success (Ok x) holds ok = holds
  on_success (Err e) holds ok = absurd (let impossible : ⊥ = cc in impossible)

  pub on_failure : (result : Result X E) → OnErr result P → is_ok result ≡ false → P
  on_failure (Ok x) holds failed = absurd (let impossible : ⊥ = cc in impossible)
  on_failure (Err e) holds failed = holds

pub put_first : (cached after : LruCache Key PixmapValue) (key : Key) (p : PixmapValue) → entry_of key cached.entries ≡ None → after ≡ lru_cache (put_entries eq cached key p) cached.cap →
    after ≡ lru_cache ((key, p) ∷ take (cached.cap - 1) cached.entries) cached.cap
put_first cached after key p absent puts = puts ∙ ap (λ (es : List (Key × PixmapValue)). lru_cache es cached.cap) (new_first key cached.entries cached.cap p absent)

-- ---- the picture of a tile

module _ (history : List Definition) (key : Key) (view : ViewValue) (p : PixmapValue) (tile : IsTileAt history key view) where
  -- what is drawn for the key
  pub drawn_shows : (map : Definition) (layers : List ℕ) (background : Color) → map_at history key.sequence ≡ Some map → layers ≡ key.layers.items → background ≡ background_of key →
      IsPicture view.width view.height (labelled map layers view background) p → IsPicture view.width view.height (labelled tile.map key.layers.items view (background_of key)) p
  drawn_shows map layers background there same_layers same_background shows =
      let same : map ≡ tile.map = same_Some map tile.map (sym there ∙ tile.is_published) in
      subst (λ (m : Definition). IsPicture view.width view.height (labelled m key.layers.items view (background_of key)) p) same
      (subst₂ (λ (l : List ℕ) (b : Color). IsPicture view.width view.height (labelled map l view b) p) same_layers same_background shows)

  -- what is drawn for one of the key's cells is the picture for all of them
  pub drawn_cached : SharedViewsHaveOnePicture → IsPicture view.width view.height (labelled tile.map key.layers.items view (background_of key)) p → IsCached history key p
  drawn_cached shared shows = record {
    map = tile.map;
    is_published = tile.is_published;
    shows = λ other is_cell.
        let share : ShareAView tile.cell other = record {
          level = tile.is_cell.level ∙ sym is_cell.level;
          columns = tile.is_cell.column ∙ sym is_cell.column;
          rows = tile.is_cell.row ∙ sym is_cell.row;
        } in
        let here = subst (λ (v : ViewValue). IsPicture v.width v.height (labelled tile.map key.layers.items v (background_of key)) p) tile.is_view shows in
        subst (λ (whole : ℤ → ℤ → Color). IsPicture most_pixels most_pixels whole p) (shared tile.map key.layers.items (background_of key) tile.cell other share) here;
  }

  module _ (cached : IsCached history key p) where
    pub as_wide : p.width ≡ view.width
    as_wide = (cached.shows tile.cell tile.is_cell).wide ∙ sym (ap (λ (v : ViewValue). v.width) tile.is_view)

    pub as_high : p.height ≡ view.height
    as_high = (cached.shows tile.cell tile.is_cell).high ∙ sym (ap (λ (v : ViewValue). v.height) tile.is_view)

    -- the kept picture is the one of each request of the key
    pub shows_request : (map : Definition) (request : RequestValue) → map_at history key.sequence ≡ Some map → IsRequestOf key request →
        IsPicture view.width view.height (labelled map request.layers view request.background) p
    shows_request map request there is =
        let cached_map : cached.map ≡ map = same_Some cached.map map (sym cached.is_published ∙ there) in
        let tile_map : tile.map ≡ map = same_Some tile.map map (sym tile.is_published ∙ there) in
        let of_map = subst (λ (m : Definition). IsPicture most_pixels most_pixels (labelled m key.layers.items (tile_view m.extent tile.cell) (background_of key)) p) cached_map
        (cached.shows tile.cell tile.is_cell) in
        let viewed : tile_view map.extent tile.cell ≡ view = sym (tile.is_view ∙ ap (λ (m : Definition). tile_view m.extent tile.cell) tile_map) in
        let of_view = subst (λ (v : ViewValue). IsPicture v.width v.height (labelled map key.layers.items v (background_of key)) p) viewed of_map in
        subst₂ (λ (l : List ℕ) (b : Color). IsPicture view.width view.height (labelled map l view b) p) is.layers is.background of_view

-- ---- the request

tile_sized : (e box : ExtentValue) (width height : ℕ) (cell : GridCell) → fits e box width height cell ≡ true → (width ≡ tile_pixels) × (height ≡ tile_pixels)
unfolding fits
tile_sized e box width height cell found = grind (arith, nat_tests)

module _ (history : List Definition) (asked : QueriedPicture) (of : IsPictureAskedOf history asked) (map : Definition) (there : map_at history asked.sequence ≡ Some map) (cell : GridCell) (view : ViewValue) (key : Key)
    (found : fits map.extent asked.request.bbox asked.request.size.width asked.request.size.height cell ≡ true) (is : IsViewFor map.extent asked.request view)
    (sequence : key.sequence ≡ asked.sequence) (layers : key.layers.items ≡ asked.request.layers) where
  tile_size_asked : asked.request.size ≡ tile_size
  tile_size_asked =
      let sized = tile_sized map.extent asked.request.bbox asked.request.size.width asked.request.size.height cell found in
      λ i. record { width = sized.0 i; height = sized.1 i }

  -- the tile's view and its key
  pub tile_asked : IsCellOf key cell → IsPartOfView asked.request.size view → IsTileAt history key view
  tile_asked is_cell lies = record {
    within = subst (λ (s : ℕ). s ≤ length history) (sym sequence) of.within;
    map = map;
    is_published = ap (map_at history) sequence ∙ there;
    layers =
        let same : of.map ≡ map = same_Some of.map map (sym of.is_published ∙ there) in
        subst₂ (λ (m : Definition) (l : List ℕ). All (λ index. index < length m.layers) l) same (sym layers) of.layers;
    cell = cell;
    is_cell = is_cell;
    is_view = is.tile cell found;
    lies = subst (λ (s : Size). IsPartOfView s view) tile_size_asked lies;
  }

  -- the tile's file is the requested picture
  pub picture_asked : background_of key ≡ asked.request.background → (file : List ℕ) → IsTileOf history key view file → IsPictureFor history asked (picture_answer file)
  picture_asked background file tile = λ other other_there.
      let same : map ≡ other = same_Some map other (sym there ∙ other_there) in
      record {
        of_kind = refl;
        of_media = refl;
        image = tile other asked.request (ap (map_at history) sequence ∙ other_there) (record { layers = layers; background = background; size = tile_size_asked })
            (subst (λ (m : Definition). IsViewFor m.extent asked.request view) same is);
      }

  -- so its picture is used
  pub tile_used : IsCellOf key cell → background_of key ≡ asked.request.background → (old new : CacheValue) → IsUsed key old new →
      IsNextCache history (Some (asked.sequence, asked.request)) old new
  tile_used is_cell background old new used = λ other other_there.
      let same : map ≡ other = same_Some map other (sym there ∙ other_there) in
      inl (record {
        key = key;
        is_key = record {
          sequence = sequence;
          layers = layers;
          background = background;
          cell = cell;
          is_tile = subst (λ (m : Definition). fits m.extent asked.request.bbox asked.request.size.width asked.request.size.height cell ≡ true) same found;
          is_cell = is_cell;
        };
        used = used;
      })

-- a picture that is no tile leaves the cache as it was
pub none_used : (history : List Definition) (asked : QueriedPicture) (map : Definition) (cache : CacheValue) → map_at history asked.sequence ≡ Some map →
    ((cell : GridCell) → fits map.extent asked.request.bbox asked.request.size.width asked.request.size.height cell ≡ false) →
    IsNextCache history (Some (asked.sequence, asked.request)) cache cache
none_used history asked map cache there no_tile = λ other other_there.
    let same : map ≡ other = same_Some map other (sym there ∙ other_there) in
    inr (record {
      no_tile = λ cell. subst (λ (m : Definition). fits m.extent asked.request.bbox asked.request.size.width asked.request.size.height cell ≡ false) same (no_tile cell);
      stays = refl;
    })

-- ---- the query

pub after_ready : (s : ℕ) (history : List Definition) (query : List ℕ) (cache : CacheValue) (plan : Plan) (answer : AnswerValue) → plan ≡ Ready answer →
    wanted_in plan ≡ requested s history query → IsCacheAfter s history query cache cache
unfolding IsCacheAfter
after_ready s history query cache plan answer is wanted =
    subst (λ (w : Option Wanted). IsNextCache history w cache cache) (ap wanted_in (sym is) ∙ wanted) refl

pub after_picture : (s : ℕ) (history : List Definition) (query : List ℕ) (old new : CacheValue) (plan : Plan) (asked : QueriedPicture) → plan ≡ Picture asked →
    wanted_in plan ≡ requested s history query → IsNextCache history (Some (asked.sequence, asked.request)) old new → IsCacheAfter s history query old new
unfolding IsCacheAfter
after_picture s history query old new plan asked is wanted after =
    subst (λ (w : Option Wanted). IsNextCache history w old new) (ap wanted_in (sym is) ∙ wanted) after

-- ---- what holds, whatever the result

pub on_ok_anyway : {X E : Type 0} {P : Type 0} (result : Result X E) → P → OnOk result P
on_ok_anyway (Ok x) holds = holds
on_ok_anyway (Err e) holds = tt
