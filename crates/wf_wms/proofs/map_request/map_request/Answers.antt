use Rattle.std.proofs.Common.{◌<◌, length}
use Rattle.std.specs.List.{All}
use Rattle.std.proofs.lemmas.List.Elements.{All-same}
use Rattle.std.proofs.lemmas.Result.{IfOk-at_ok, IfOk-weaker}
use Rattle.wf_wms.proofs.map_request.map_request.Goals as goal

pub returns-in-Ok-clause-within : goal.returns-in-Ok-clause-within
returns-in-Ok-clause-within c =
    let within = IfOk-at_ok (λ layers. All (λ index. index < length c.args.map.now.layers) layers.items) c.in-Ok.is c.in_ok-layers.ensures.within in
    IfOk-weaker c.request_of.result _ _ (λ request same. All-same (λ index. index < length c.args.map.now.layers) request.layers c.in-Ok.layers.items same within) c.request_of.ensures.layers
