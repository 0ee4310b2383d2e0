use Rattle.std.proofs.Common.{ℕ, List}
use Rattle.wf_def.specs.Definition.{LayerDefinition}
use Rattle.wf_spelling.specs.Canon.{layer_lines}
use Rattle.wf_spelling.proofs.WriteSequences.{nothing, one_more, next_taken}
use Rattle.wf_spelling.proofs.writer.push_layers.Goals as goal

pub loop-index-init : goal.loop-index-init
loop-index-init c = nothing _

pub loop-index-preserved : goal.loop-index-preserved
loop-index-preserved c =
    let layers = c.args.map.now.layers in
    let entry : List ℕ × LayerDefinition = (c.layer.result.0.now, c.layer.result.1.now) in
    one_more layer_lines layers c.loop-index.index entry (next_taken layers c.loop-index.index entry c.layer.ensures.value) c.loop-index.invariant c.push_layer.ensures
