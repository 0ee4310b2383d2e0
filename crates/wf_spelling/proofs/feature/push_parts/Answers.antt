use Rattle.wf_spelling.specs.Canon.{part_lines}
use Rattle.wf_spelling.proofs.WriteSequences.{nothing, one_more, taken}
use Rattle.wf_spelling.proofs.feature.push_parts.Goals as goal

pub loop-part-init : goal.loop-part-init
loop-part-init c = nothing _

pub loop-part-preserved : goal.loop-part-preserved
loop-part-preserved c =
    one_more part_lines c.args.parts.now c.loop-part.part-index c.part-item.result (taken c.args.parts.now c.loop-part.part-index c.part-item.result c.loop-part-test.true c.part-item.is)
    c.loop-part.invariant c.push_part.ensures
