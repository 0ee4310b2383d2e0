use Rattle.std.proofs.Common.{◌≡◌, ◌∙◌, ◌-◌, ap, sym, subst}
use Rattle.std.specs.Prelude.{None}
use Rattle.lru.specs.LruCache.{LruCache}
use Rattle.wf_paint.specs.Pixmap.{PixmapValue}
use Rattle.wf_wms.specs.CachedPictures.{AllCached, CacheValue, cache_of, entry_of}
use Rattle.wf_wms.specs.declared.cache.Key.{Key}
use Rattle.wf_wms.proofs.CachedPicturesTheorem.{drawn_first, drawn_unkept, cached_with, put_cached}
use Rattle.wf_wms.proofs.cache.Cache.keep.Goals as goal

pub put-is_cached-requires : goal.put-is_cached-requires
put-is_cached-requires c = subst (λ (cache : CacheValue). entry_of c.args.key cache.entries ≡ None) (sym c.self.view_is) c.requires

-- it is kept

pub returns-then-is_cached-clause-used : goal.returns-then-is_cached-clause-used
returns-then-is_cached-clause-used c =
    let was = c.self.inside in
    drawn_first c.args.key c.args.pixmap was.cached c.put-is_cached.new.cached was.drawings was.taken was.unkept c.risen-self-inside.result c.args.self.now c.self.view_is c.requires c.risen-self-inside.ensures
    (c.put-is_cached.ensures.put c.if-is_cached.true)

pub returns-then-is_cached-clause-cached : goal.returns-then-is_cached-clause-cached
returns-then-is_cached-clause-cached c = λ history cached is.
    let was = c.self.inside in
    put_cached history (cache_of was.cached was.drawings was.taken was.unkept) c.args.key c.args.pixmap (cache_of c.put-is_cached.new.cached c.risen-self-inside.result was.taken was.unkept) (was.cached.cap - 1)
    (ap (λ (k : LruCache Key PixmapValue). k.entries) (c.put-is_cached.ensures.put c.if-is_cached.true)) (subst (AllCached history) (sym c.self.view_is) cached) is

pub returns-then-is_cached-clause-capacity : goal.returns-then-is_cached-clause-capacity
returns-then-is_cached-clause-capacity c =
    ap (λ (k : LruCache Key PixmapValue). k.cap) (c.put-is_cached.ensures.put c.if-is_cached.true) ∙ ap (λ (cache : CacheValue). cache.cap) c.self.view_is

-- an allocation failed

pub returns-clause-used : goal.returns-clause-used
returns-clause-used c =
    let was = c.self.inside in
    drawn_unkept c.args.key c.args.pixmap was.cached c.put-is_cached.new.cached was.drawings was.taken was.unkept c.risen-self-inside.result c.args.self.now c.self.view_is c.requires c.risen-self-inside.ensures c.risen-self-inside-2.result
    (c.put-is_cached.ensures.same c.if-is_cached.false) c.risen-self-inside-2.ensures

pub returns-clause-cached : goal.returns-clause-cached
returns-clause-cached c = λ history cached is.
    let was = c.self.inside in
    cached_with history (cache_of was.cached was.drawings was.taken was.unkept) (cache_of c.put-is_cached.new.cached c.risen-self-inside.result was.taken c.risen-self-inside-2.result)
    (ap (λ (k : LruCache Key PixmapValue). k.entries) (c.put-is_cached.ensures.same c.if-is_cached.false)) (subst (AllCached history) (sym c.self.view_is) cached)

pub returns-clause-capacity : goal.returns-clause-capacity
returns-clause-capacity c =
    ap (λ (k : LruCache Key PixmapValue). k.cap) (c.put-is_cached.ensures.same c.if-is_cached.false) ∙ ap (λ (cache : CacheValue). cache.cap) c.self.view_is
