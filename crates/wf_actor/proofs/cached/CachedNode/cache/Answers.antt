use Rattle.std.proofs.Common.{subst}
use Rattle.wf_node.specs.Node.{Node}
use Rattle.wf_wms.specs.CachedPictures.{AllCached}
use Rattle.wf_actor.proofs.cached.CachedNode.cache.Goals as goal

pub returns : goal.returns
returns g c = subst (λ (x : Node g.row.T.Denot). AllCached x.parts.history c.self.inside.cache) c.self.view_is c.self.invariant
