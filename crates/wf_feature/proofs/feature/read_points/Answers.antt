use Rattle.std.proofs.Common.{◌≡◌, ◌++◌, [], ◌∷◌, false, is_some, length, sym, ◌∙◌, rules}
use Rattle.wf_block.specs.Grammar.{end}
use Rattle.wf_feature.proofs.PointsTheorem.{points_more, points_fit}
use Rattle.wf_feature.proofs.feature.read_points.Goals as goal

-- a point after those so far
pub loop-preserved : goal.loop-preserved
loop-preserved c =
    let closed : is_some (end c.loop.parser) ≡ false = search rules in
    let count : c.len.result ≡ length c.loop.part = c.len.ensures.value in
    let pushed : c.push.new.self ≡ c.loop.part ++ c.in_ok-point.point ∷ [] = c.in_ok-push.ensures.pushed in
    let read = rw count at c.in_ok-point.ensures.read in
    let more = points_more c.args.most c.loop.part c.len-end.result c.loop.counter c.loop.parser c.read_point.new.parser c.in_ok-point.point c.loop-test.true closed read in
    (rw pushed (sym more ∙ c.loop.invariant.0), rw pushed (points_fit c.args.most c.loop.part c.in_ok-point.point (rw count at c.in_ok-point.ensures.one)))
