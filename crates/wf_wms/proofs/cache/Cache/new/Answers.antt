use Rattle.std.proofs.Common.{ap}
use Rattle.lru.specs.LruCache.{LruCache}
use Rattle.wf_paint.specs.Pixmap.{PixmapValue}
use Rattle.wf_wms.specs.CachedPictures.{cache_of}
use Rattle.wf_wms.specs.declared.cache.Key.{Key}
use Rattle.wf_wms.proofs.CachedPicturesTheorem.{none_cached}
use Rattle.wf_wms.proofs.cache.Cache.new.Goals as goal

pub returns-clause-cached : goal.returns-clause-cached
returns-clause-cached c = λ history.
    none_cached history (cache_of c.in_ok-new.field-0 0 0 0) (ap (λ (k : LruCache Key PixmapValue). k.entries) c.in_ok-new.ensures)
