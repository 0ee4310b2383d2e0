use Rattle.std.proofs.Common.{[]}
use Rattle.wf_geometry.specs.Segments.{positions}
use Rattle.wf_paint.proofs.SegmentsLemmas.{path_whole}
use Rattle.wf_paint.proofs.segments.push_way.Goals as goal

pub returns : goal.returns
returns c =
    path_whole c.push_from.new.segments.items c.args.segments.now.items c.args.start (positions c.args.view.now c.args.points.now) (c.in_ok-push_from.ensures [])
