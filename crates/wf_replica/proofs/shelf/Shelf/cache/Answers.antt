use Rattle.std.proofs.Common.{subst}
use Rattle.wf_learner.specs.History.{History}
use Rattle.wf_wms.specs.CachedPictures.{AllCached}
use Rattle.wf_replica.proofs.shelf.Shelf.cache.Goals as goal

pub returns : goal.returns
returns c = subst (λ (h : History). AllCached h.definitions c.self.inside.cache) c.self.view_is c.self.invariant
