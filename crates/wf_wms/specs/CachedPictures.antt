-- Kept pictures: the picture of each cache entry, the tiles that are cut out of it, and what
-- becomes of the cache when a picture is requested.
use Rattle.std.specs.Prelude.{◌≡◌, ◌≤◌, ◌⊎◌, ◌&&◌, ℕ, ◌+◌, ◌-◌, ◌^◌, min, nat_eq, Bool, true, false, List, ◌∷◌, ◌++◌, length, take, bytes_eq, Option, Some, None, pos, Contains}
use Rattle.std.specs.Map.{lookup_entry, remove_entry}
use Rattle.std.specs.Ordering.{int_eq}
use Rattle.lru.specs.LruCache.{LruCache}
use Rattle.wf_def.specs.Definition.{Definition}
use Rattle.wf_def.specs.declared.color.Color.{Color}
use Rattle.wf_learner.specs.History.{map_at}
use Rattle.wf_geometry.specs.Exact.{quotient}
use Rattle.wf_geometry.specs.Grid.{fits}
use Rattle.wf_geometry.specs.Limit.{most_pixels, shared_tiles, tile_pixels}
use Rattle.wf_paint.specs.Pixmap.{PixmapValue, IsPicture}
use Rattle.wf_geometry.specs.Tile.{tile_view}
use Rattle.wf_geometry.specs.View.{ViewValue}
use Rattle.wf_geometry.specs.declared.grid.GridCell.{GridCell}
use Rattle.wf_picture.specs.Picture.{labelled, IsImageOf, IsViewFor, IsPartOfView}
use Rattle.wf_picture.specs.Request.{RequestValue}
use Rattle.wf_picture.specs.declared.request.Size.{Size}
use Rattle.wf_wms.specs.MapRequest.{AreLayersOf}
use Rattle.wf_wms.specs.Requested.{Wanted, requested}
use Rattle.wf_wms.specs.declared.cache.Key.{Key}

-- the size of a tile
abbrev pub tile_size : Size
tile_size = record { width = tile_pixels; height = tile_pixels }

-- the most pictures that are kept
abbrev pub most_cached : ℕ
most_cached = 64

-- the background that a key names
abbrev pub background_of : Key → Color
background_of key = record { r = key.red; g = key.green; b = key.blue }

-- the cell is in the key's four columns and four rows of its level
pub record IsCellOf (key : Key) (cell : GridCell) : Type 0 where
  pub level : cell.z ≡ key.level
  pub column : quotient cell.col (pos shared_tiles) ≡ key.column
  pub row : quotient cell.row (pos shared_tiles) ≡ key.row

-- The pixmap is the key's picture: the labelled picture, of the map that the history has at the
-- key's sequence, with the key's layers and background, out of which the tile of each of the key's
-- cells is cut.
pub record IsCached (history : List Definition) (key : Key) (p : PixmapValue) : Type 0 where
  pub map : Definition
  pub is_published : map_at history key.sequence ≡ Some map
  pub shows : (cell : GridCell) → IsCellOf key cell →
      IsPicture most_pixels most_pixels (labelled map key.layers.items (tile_view map.extent cell) (background_of key)) p

-- A cache: its entries, the most recently used first, and its capacity; and how many pictures were
-- drawn, how many tiles were cut out of an entry's picture in place of drawing one, and how many of
-- the drawn pictures weren't kept, since an allocation failed.
pub record CacheValue : Type 0 where
  pub entries : List (Key × PixmapValue)
  pub cap : ℕ
  pub drawings : ℕ
  pub taken : ℕ
  pub unkept : ℕ

-- the cache of these entries, with these counts
abbrev pub cache_of : LruCache Key PixmapValue → ℕ → ℕ → ℕ → CacheValue
cache_of cached drawings taken unkept = record { entries = cached.entries; cap = cached.cap; drawings = drawings; taken = taken; unkept = unkept }

-- each entry is the picture of its key
unfoldable pub AllCached : List Definition → CacheValue → Type 0
AllCached history cache = (key : Key) (p : PixmapValue) → Contains cache.entries (key, p) → IsCached history key p

-- it still is when the history has grown
abbrev pub GrowthKeepsAll : Type 0
GrowthKeepsAll = (history more : List Definition) (cache : CacheValue) → AllCached history cache → AllCached (history ++ more) cache

-- ---- what becomes of the cache: it drops the least recently used picture

-- whether two keys name one picture
abbrev pub is_same_picture : Key → Key → Bool
is_same_picture key other = nat_eq key.sequence other.sequence && (bytes_eq key.layers.items other.layers.items
    && (nat_eq key.red other.red && (nat_eq key.green other.green && (nat_eq key.blue other.blue
    && (nat_eq key.level other.level && (int_eq key.column other.column && int_eq key.row other.row))))))

-- the entry of the key's picture, if that is kept
unfoldable pub entry_of : Key → List (Key × PixmapValue) → Option (Key × PixmapValue)
entry_of key entries = lookup_entry (is_same_picture key) entries

-- the other entries, in their order
unfoldable pub others : Key → List (Key × PixmapValue) → List (Key × PixmapValue)
others key entries = remove_entry (is_same_picture key) entries

-- a count with one more, which stays at its highest
unfoldable pub risen : ℕ → ℕ
risen count = min (count + 1) (2 ^ 64 - 1)

-- A tile is cut out of the key's picture, which is kept. Its entry goes first, and the others stay
-- in their order.
pub record IsCutFromCache (key : Key) (old new : CacheValue) : Type 0 where
  pub entry : Key × PixmapValue
  pub is_cached : entry_of key old.entries ≡ Some entry
  pub goes_first : new ≡ record old { entries = entry ∷ others key old.entries; taken = risen old.taken }

-- The key's picture isn't kept. It is drawn, and its entry goes first; where the cache is full, the
-- last entry goes.
pub record IsDrawn (key : Key) (old new : CacheValue) : Type 0 where
  pub is_absent : entry_of key old.entries ≡ None
  pub picture : PixmapValue
  pub goes_first : new ≡ record old { entries = (key, picture) ∷ take (old.cap - 1) old.entries; drawings = risen old.drawings }

-- The key's picture isn't kept. It is drawn, and an allocation to keep it fails: the entries stay.
pub record IsUnkept (key : Key) (old new : CacheValue) : Type 0 where
  pub is_absent : entry_of key old.entries ≡ None
  pub entries_stay : new ≡ record old { drawings = risen old.drawings; unkept = risen old.unkept }

-- a tile is cut out of the key's picture
abbrev pub IsUsed : Key → CacheValue → CacheValue → Type 0
IsUsed key old new = IsCutFromCache key old new ⊎ (IsDrawn key old new ⊎ IsUnkept key old new)

-- the key of the picture of this map out of which the requested tile is cut
pub record IsKeyFor (map : Definition) (wanted : Wanted) (key : Key) : Type 0 where
  pub sequence : key.sequence ≡ wanted.0
  pub layers : key.layers.items ≡ wanted.1.layers
  pub background : background_of key ≡ wanted.1.background
  pub cell : GridCell
  pub is_tile : fits map.extent wanted.1.bbox wanted.1.size.width wanted.1.size.height cell ≡ true
  pub is_cell : IsCellOf key cell

-- the requested picture is a tile of the map's grid, and its key's picture is used
pub record UsesTile (map : Definition) (wanted : Wanted) (old new : CacheValue) : Type 0 where
  pub key : Key
  pub is_key : IsKeyFor map wanted key
  pub used : IsUsed key old new

-- it is no tile, and is drawn beside the cache
pub record UsesNone (map : Definition) (wanted : Wanted) (old new : CacheValue) : Type 0 where
  pub no_tile : (cell : GridCell) → fits map.extent wanted.1.bbox wanted.1.size.width wanted.1.size.height cell ≡ false
  pub stays : new ≡ old

-- what becomes of the cache when a picture is requested, or none
abbrev pub IsNextCache : List Definition → Option Wanted → CacheValue → CacheValue → Type 0
IsNextCache history None old new = new ≡ old
IsNextCache history (Some wanted) old new = (map : Definition) → map_at history wanted.0 ≡ Some map → UsesTile map wanted old new ⊎ UsesNone map wanted old new

-- and when a query is answered, at a server with this history whose last sequence is s
unfoldable pub IsCacheAfter : ℕ → List Definition → List ℕ → CacheValue → CacheValue → Type 0
IsCacheAfter s history query old new = IsNextCache history (requested s history query) old new

-- ---- for the crate's own contracts

-- The view is that of one of the key's cells, in the grid of the map that the history has at the
-- key's sequence, and the cell's tile lies within it.
pub record IsTileAt (history : List Definition) (key : Key) (view : ViewValue) : Type 0 where
  pub within : key.sequence ≤ length history
  pub map : Definition
  pub is_published : map_at history key.sequence ≡ Some map
  pub layers : AreLayersOf map key.layers.items
  pub cell : GridCell
  pub is_cell : IsCellOf key cell
  pub is_view : view ≡ tile_view map.extent cell
  pub lies : IsPartOfView tile_size view

-- the request is one of the key's
pub record IsRequestOf (key : Key) (request : RequestValue) : Type 0 where
  pub layers : key.layers.items ≡ request.layers
  pub background : background_of key ≡ request.background
  pub size : request.size ≡ tile_size

-- the bytes are the image of each request of the key with this view
abbrev pub IsTileOf : List Definition → Key → ViewValue → List ℕ → Type 0
IsTileOf history key view bytes = (map : Definition) (request : RequestValue) → map_at history key.sequence ≡ Some map →
    IsRequestOf key request → IsViewFor map.extent request view → IsImageOf map request bytes
