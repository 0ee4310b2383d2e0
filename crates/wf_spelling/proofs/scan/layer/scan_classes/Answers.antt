use Rattle.wf_spelling.specs.Canon.{class_lines}
use Rattle.wf_spelling.proofs.ScanSequences.{nothing, one_more}
use Rattle.wf_spelling.proofs.scan.layer.scan_classes.Goals as goal

pub loop-init : goal.loop-init
loop-init c = rw c.new-classes.ensures (nothing _)

pub loop-preserved : goal.loop-preserved
loop-preserved c = one_more class_lines c.loop.classes c.in-Some.class c.push.new.self c.in-Ok.ensures.pushed c.loop.invariant c.in-Some.ensures
