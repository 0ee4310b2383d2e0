use Rattle.std.proofs.Common.{subst}
use Rattle.wf_edge.specs.RequestEffect.{MovesOnce}
use Rattle.wf_node.specs.Node.{Node}
use Rattle.wf_actor.proofs.cached.CachedNode.serve.Goals as goal

pub returns-clause-moves : goal.returns-clause-moves
returns-clause-moves g c =
    subst (λ (x : Node g.row.T.Denot). MovesOnce g.T.Tape x c.serve_one_cached.result.messages c.serve_one_cached.new.node) c.self.view_is c.serve_one_cached.ensures.moves
