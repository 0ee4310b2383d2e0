use Rattle.wf_edge.specs.Growth.{cached_on, moved_grown}
use Rattle.wf_wms.proofs.CachedPicturesTheorem.{growth_keeps}
use Rattle.wf_edge.proofs.serve.serve_one_cached.Goals as goal

pub returns-clause-cached : goal.returns-clause-cached
returns-clause-cached g c =
    cached_on growth_keeps c.args.node.now.parts.history c.serve_with.new.node.parts.history c.serve_with.new.pictures
    (moved_grown g.T.Tape c.args.node.now c.serve_with.new.node c.serve_with.result.messages c.serve_with.ensures.serves.moves)
    c.serve_with.ensures.cached
