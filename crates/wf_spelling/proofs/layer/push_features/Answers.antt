use Rattle.wf_spelling.specs.Canon.{feature_lines}
use Rattle.wf_spelling.proofs.WriteSequences.{nothing, one_more, taken}
use Rattle.wf_spelling.proofs.layer.push_features.Goals as goal

pub loop-feature-init : goal.loop-feature-init
loop-feature-init c = nothing _

pub loop-feature-preserved : goal.loop-feature-preserved
loop-feature-preserved c =
    one_more feature_lines c.args.features.now c.loop-feature.feature-index c.feature-item.result (taken c.args.features.now c.loop-feature.feature-index c.feature-item.result c.loop-feature-test.true c.feature-item.is)
    c.loop-feature.invariant c.push_feature.ensures
