use Rattle.wf_spelling.specs.Canon.{style_lines}
use Rattle.wf_spelling.proofs.WriteSequences.{nothing, one_more, taken}
use Rattle.wf_spelling.proofs.class.push_styles.Goals as goal

pub loop-style-init : goal.loop-style-init
loop-style-init c = nothing _

pub loop-style-preserved : goal.loop-style-preserved
loop-style-preserved c =
    one_more style_lines c.args.styles.now c.loop-style.style-index c.style-item.result (taken c.args.styles.now c.loop-style.style-index c.style-item.result c.loop-style-test.true c.style-item.is)
    c.loop-style.invariant c.push_style.ensures
