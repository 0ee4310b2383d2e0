-- The cache's pictures are those of the history still.
use Rattle.wf_wms.specs.CachedPictures.{AllCached}
use Rattle.wf_test_map.proofs.cached.write_all.Given as goal

abbrev pub invariant-loop-query : goal.invariant-loop-query
invariant-loop-query l = AllCached l.history.definitions l.cache
