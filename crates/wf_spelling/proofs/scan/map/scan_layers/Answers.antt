use Rattle.std.proofs.Common.{ℕ, List, refl}
use Rattle.wf_def.specs.Definition.{LayerDefinition}
use Rattle.wf_spelling.specs.Canon.{layer_lines}
use Rattle.wf_spelling.proofs.ScanSequences.{nothing, one_more}
use Rattle.wf_spelling.proofs.scan.map.scan_layers.Goals as goal

pub loop-init : goal.loop-init
loop-init c = rw c.new-layers.ensures (nothing _)

pub loop-preserved : goal.loop-preserved
loop-preserved c =
    let entry : List ℕ × LayerDefinition = (c.in-Some.read.name, c.in-Some.read.layer) in
    one_more layer_lines c.loop.layers entry c.push_layer.new.layers (c.if-not-push_layer.ensures refl) c.loop.invariant c.in-Some.ensures.scanned
