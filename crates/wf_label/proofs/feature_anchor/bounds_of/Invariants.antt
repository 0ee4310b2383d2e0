use Rattle.std.proofs.Common.{◌≡◌, take}
use Rattle.wf_label.specs.Anchor.{IsBounds, bounds_of}
use Rattle.wf_label.proofs.feature_anchor.bounds_of.Given as goal

-- the box is that of the points so far
abbrev pub invariant-loop-point : goal.invariant-loop-point
invariant-loop-point l = record {
  so_far : l.bounds ≡ bounds_of l.view l.first (take l.point-index l.rest);
  within : IsBounds l.bounds;
}
