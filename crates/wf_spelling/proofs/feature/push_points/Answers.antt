use Rattle.wf_spelling.specs.Canon.{point_line}
use Rattle.wf_spelling.proofs.WriteSequences.{nothing, one_line_more, taken}
use Rattle.wf_spelling.proofs.feature.push_points.Goals as goal

pub loop-point-init : goal.loop-point-init
loop-point-init c = nothing _

pub loop-point-preserved : goal.loop-point-preserved
loop-point-preserved c =
    one_line_more point_line c.args.points.now c.loop-point.point-index c.point-item.result (taken c.args.points.now c.loop-point.point-index c.point-item.result c.loop-point-test.true c.point-item.is)
    c.loop-point.invariant c.push_point.ensures
