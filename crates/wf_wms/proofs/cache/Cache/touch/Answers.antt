use Rattle.std.proofs.Common.{◌∙◌, ap, sym, subst}
use Rattle.lru.specs.LruCache.{LruCache}
use Rattle.wf_paint.specs.Pixmap.{PixmapValue}
use Rattle.wf_wms.specs.CachedPictures.{AllCached, CacheValue, cache_of}
use Rattle.wf_wms.specs.declared.cache.Key.{Key}
use Rattle.wf_wms.proofs.CachedPicturesTheorem.{taken_of, touched_cached}
use Rattle.wf_wms.proofs.cache.Cache.touch.Goals as goal

pub returns-clause-taken : goal.returns-clause-taken
returns-clause-taken c =
    let was = c.self.inside in
    taken_of c.args.key.now was.cached c.promote.new.self was.drawings was.taken was.unkept c.risen-self-inside.result c.args.self.now c.self.view_is c.requires c.promote.ensures.entries c.risen-self-inside.ensures

pub returns-clause-cached : goal.returns-clause-cached
returns-clause-cached c = λ history cached.
    let was = c.self.inside in
    touched_cached history (cache_of was.cached was.drawings was.taken was.unkept) c.args.key.now (cache_of c.promote.new.self was.drawings c.risen-self-inside.result was.unkept)
    (ap (λ (k : LruCache Key PixmapValue). k.entries) c.promote.ensures.entries) (subst (AllCached history) (sym c.self.view_is) cached)

pub returns-clause-capacity : goal.returns-clause-capacity
returns-clause-capacity c =
    ap (λ (k : LruCache Key PixmapValue). k.cap) c.promote.ensures.entries ∙ ap (λ (cache : CacheValue). cache.cap) c.self.view_is
