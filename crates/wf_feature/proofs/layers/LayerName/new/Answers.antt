use Rattle.std.proofs.Common.{◌≡◌, true, false, sym, ◌∙◌}
use Rattle.wf_feature.specs.Layers.{is_layer_name}
use Rattle.wf_feature.proofs.LayerNames.{tested}
use Rattle.wf_feature.proofs.layers.LayerName.new.Goals as goal

pub returns-then-is_layer_name : goal.returns-then-is_layer_name
returns-then-is_layer_name c =
    let so : is_layer_name c.args.text ≡ true = sym (tested c.args.text c.is_layer_name.result c.as_bytes.ensures.within c.is_layer_name.ensures) ∙ c.if-is_layer_name.true in
    rw so

pub returns-else-is_layer_name : goal.returns-else-is_layer_name
returns-else-is_layer_name c =
    let so : is_layer_name c.args.text ≡ false = sym (tested c.args.text c.is_layer_name.result c.as_bytes.ensures.within c.is_layer_name.ensures) ∙ c.if-is_layer_name.false in
    rw so
