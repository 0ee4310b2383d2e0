-- Pictures cached for nodes: one cache for each.
use Rattle.std.specs.Prelude.{◌≡◌, ℕ, List, length, slice_get, Some}
use Rattle.wf_def.specs.Definition.{Definition}
use Rattle.wf_node.specs.Node.{Node}
use Rattle.wf_wms.specs.CachedPictures.{AllCached, CacheValue}

-- Each picture in the cache is of a map that the node at index `node_index` has published.
abbrev pub IsCachedAt : {T : Type 0} → List (Node T) → ℕ → CacheValue → Type 0
IsCachedAt {T} nodes node_index cache = (node : Node T) → slice_get nodes node_index ≡ Some node → AllCached node.parts.history cache

-- At index i is the cache of node i: each picture in it is of a map that the node has published.
pub record AreCached {T : Type 0} (nodes : List (Node T)) (caches : List CacheValue) : Type 0 where
  pub as_many : length caches ≡ length nodes
  pub cached : (i : ℕ) (node : Node T) (cache : CacheValue) → slice_get nodes i ≡ Some node → slice_get caches i ≡ Some cache → AllCached node.parts.history cache

-- each cache has room for this many pictures
unfoldable pub HaveRoom : ℕ → List CacheValue → Type 0
HaveRoom room caches = (i : ℕ) (cache : CacheValue) → slice_get caches i ≡ Some cache → cache.cap ≡ room

-- whatever room they had, they have still
abbrev pub KeepRoom : List CacheValue → List CacheValue → Type 0
KeepRoom caches caches_after = (room : ℕ) → HaveRoom room caches → HaveRoom room caches_after

-- Each node has a cache with room for this many pictures.
pub record HaveCaches {T : Type 0} (count : ℕ) (nodes : List (Node T)) : Type 0 where
  pub caches : List CacheValue
  pub cached : AreCached nodes caches
  pub room : HaveRoom count caches

-- for the crate's own contracts: these caches are valid for every history
unfoldable pub AreEmpty : List CacheValue → Type 0
AreEmpty caches = (i : ℕ) (cache : CacheValue) → slice_get caches i ≡ Some cache → (history : List Definition) → AllCached history cache
