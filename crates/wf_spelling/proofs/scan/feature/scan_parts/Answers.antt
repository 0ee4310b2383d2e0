use Rattle.wf_spelling.specs.Canon.{part_lines}
use Rattle.wf_spelling.proofs.ScanSequences.{nothing, one_more}
use Rattle.wf_spelling.proofs.scan.feature.scan_parts.Goals as goal

pub loop-init : goal.loop-init
loop-init c = rw c.new-parts.ensures (nothing _)

pub loop-preserved : goal.loop-preserved
loop-preserved c = one_more part_lines c.loop.parts c.in-Some.part c.push.new.self c.in-Ok.ensures.pushed c.loop.invariant c.in-Some.ensures
