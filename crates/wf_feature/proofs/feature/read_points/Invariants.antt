use Rattle.std.proofs.Common.{◌≡◌, ◌-◌, ◌≤◌, [], length}
use Rattle.wf_feature.specs.Feature.{points_behind}
use Rattle.wf_feature.proofs.feature.read_points.Given as goal

-- reading points from here gives the same as reading them from the start, and there are no more
-- than may come
abbrev pub invariant-loop : goal.invariant-loop
invariant-loop l = (points_behind l.most l.part (l.end - l.counter) l.parser ≡ points_behind l.most [] l.end l.initial.parser) × (length l.part ≤ l.most)
