use Rattle.wf_spelling.specs.Canon.{point_line}
use Rattle.wf_spelling.proofs.ScanSequences.{nothing, one_line_more}
use Rattle.wf_spelling.proofs.scan.feature.scan_points.Goals as goal

pub loop-init : goal.loop-init
loop-init c = rw c.new-part.ensures (nothing _)

pub loop-preserved : goal.loop-preserved
loop-preserved c = one_line_more point_line c.loop.part c.in-Some.point c.push.new.self c.in-Ok.ensures.pushed c.loop.invariant c.in-Some.ensures
