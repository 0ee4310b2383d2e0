-- One more cache, which is empty.
use Rattle.std.proofs.Common.{sym, subst}
use Rattle.wf_serve.specs.CacheSet.{AreEmpty, HaveRoom}
use Rattle.wf_serve.proofs.Caches.{one_more_empty, one_more_room}
use Rattle.wf_serve.proofs.cache_set.add.Goals as goal

pub returns-clause-empty : goal.returns-clause-empty
returns-clause-empty c = subst AreEmpty (sym c.in_ok-push.ensures.items) (one_more_empty c.args.caches.now.items c.in_ok-cache.cache c.requires.empty c.in_ok-cache.ensures.cached)

pub returns-clause-room : goal.returns-clause-room
returns-clause-room c = subst (HaveRoom c.args.capacity) (sym c.in_ok-push.ensures.items) (one_more_room c.args.capacity c.args.caches.now.items c.in_ok-cache.cache c.requires.room c.in_ok-cache.ensures.capacity)
