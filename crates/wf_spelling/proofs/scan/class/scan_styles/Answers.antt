use Rattle.wf_spelling.specs.Canon.{style_lines}
use Rattle.wf_spelling.proofs.ScanSequences.{nothing, one_more}
use Rattle.wf_spelling.proofs.scan.class.scan_styles.Goals as goal

pub loop-init : goal.loop-init
loop-init c = rw c.new-styles.ensures (nothing _)

pub loop-preserved : goal.loop-preserved
loop-preserved c = one_more style_lines c.loop.styles c.in-Some.style c.push.new.self c.in-Ok.ensures.pushed c.loop.invariant c.in-Some.ensures
