-- This many caches are there, all empty.
use Rattle.std.proofs.Common.{◌≡◌, length}
use Rattle.wf_serve.specs.CacheSet.{AreEmpty, HaveRoom}
use Rattle.wf_serve.proofs.cache_set.caches_for.Given as goal

abbrev pub invariant-loop-number : goal.invariant-loop-number
invariant-loop-number g l = record { size : length l.caches.items ≡ l.number; empty : AreEmpty l.caches.items; room : HaveRoom l.fn.capacity l.caches.items }
