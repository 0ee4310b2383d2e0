use Rattle.wf_spelling.specs.Canon.{class_lines}
use Rattle.wf_spelling.proofs.WriteSequences.{nothing, one_more, taken}
use Rattle.wf_spelling.proofs.layer.push_classes.Goals as goal

pub loop-class-init : goal.loop-class-init
loop-class-init c = nothing _

pub loop-class-preserved : goal.loop-class-preserved
loop-class-preserved c =
    one_more class_lines c.args.classes.now c.loop-class.class-index c.class-item.result (taken c.args.classes.now c.loop-class.class-index c.class-item.result c.loop-class-test.true c.class-item.is)
    c.loop-class.invariant c.push_class.ensures
