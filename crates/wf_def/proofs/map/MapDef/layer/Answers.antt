use Rattle.std.proofs.Common.{◌≡◌, slice_get, Some, arith, rules}
use Rattle.wf_def.proofs.MapLemmas.{IsLayer-at, points_at}
use Rattle.wf_def.proofs.map.MapDef.layer.Goals as goal

pub returns-clause-layer : goal.returns-clause-layer
returns-clause-layer c =
    let here : slice_get c.self.inside.layers.entries c.args.index ≡ Some (c.unwrap.result.0.now, c.unwrap.result.1.now) = search rules in
    IsLayer-at _ _ _ here c.self.invariant.layers

pub returns-clause-points : goal.returns-clause-points
returns-clause-points c =
    let here : slice_get c.self.inside.layers.entries c.args.index ≡ Some (c.unwrap.result.0.now, c.unwrap.result.1.now) = search rules in
    omega (arith, points_at c.self.inside.layers.entries c.args.index (c.unwrap.result.0.now, c.unwrap.result.1.now) here, c.self.invariant.points_most)
