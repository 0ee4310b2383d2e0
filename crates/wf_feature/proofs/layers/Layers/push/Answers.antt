use Rattle.std.proofs.Common.{◌≡◌, ◌++◌, ◌≤◌, [], ◌∷◌, length, rules}
use Rattle.std.specs.Prelude.{sum_by}
use Rattle.wf_def.specs.Limits.{points_of_feature}
use Rattle.wf_feature.specs.Layers.{features_left, points_left}
use Rattle.wf_feature.proofs.Unlike.{Entry}
use Rattle.wf_feature.proofs.GatheredTheorem.{one_more, left_over}
use Rattle.wf_feature.proofs.layers.Layers.push.Goals as goal

-- the list with one more layer, if that may follow the others
pub invariant_of-self-2 : goal.invariant_of-self-2
invariant_of-self-2 c =
    let inside = c.self.inside in
    let layer : Entry = (c.args.read.name, c.args.read.layer) in
    let left = left_over inside.entries.items inside.features inside.points c.self.invariant in
    let counted : c.args.read.points ≡ sum_by points_of_feature c.args.read.layer.features = search rules in
    let fewer : length c.args.read.layer.features ≤ features_left inside.entries.items = search rules in
    let less : c.args.read.points ≤ points_left inside.entries.items = search rules in
    let pushed : c.push.new.self.items ≡ inside.entries.items ++ layer ∷ [] = search rules in
    let same : c.features-features.result.now ≡ c.args.read.layer.features = search rules in
    rw (pushed, same, counted)
    (one_more inside.entries.items inside.features inside.points layer c.self.invariant c.text.ensures.within (search rules) (search rules)
    (rw left.0 fewer) (rw (← counted, left.1) less))
