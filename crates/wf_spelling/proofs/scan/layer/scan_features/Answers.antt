use Rattle.wf_spelling.specs.Canon.{feature_lines}
use Rattle.wf_spelling.proofs.ScanSequences.{nothing, one_more}
use Rattle.wf_spelling.proofs.scan.layer.scan_features.Goals as goal

pub loop-init : goal.loop-init
loop-init c = rw c.new-features.ensures (nothing _)

pub loop-preserved : goal.loop-preserved
loop-preserved c = one_more feature_lines c.loop.features c.in-Some.feature c.push.new.self c.in-Ok.ensures.pushed c.loop.invariant c.in-Some.ensures
