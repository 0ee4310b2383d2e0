use Rattle.std.proofs.Common.{◌≡◌, ◌≤◌, take}
use Rattle.std.specs.Prelude.{sum_by}
use Rattle.wf_def.specs.Limits.{points_of_feature}
use Rattle.wf_def.specs.Limit.{most_points}
use Rattle.wf_spelling.proofs.scan.layer.count_points.Given as goal

-- the points of the features so far were counted
abbrev pub invariant-loop-feature : goal.invariant-loop-feature
invariant-loop-feature l = (l.count ≡ sum_by points_of_feature (take l.feature-index l.features)) × (l.count ≤ most_points)
