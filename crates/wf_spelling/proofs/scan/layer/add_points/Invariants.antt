use Rattle.std.proofs.Common.{◌≡◌, ◌+◌, ◌≤◌, length, take}
use Rattle.std.specs.Prelude.{sum_by}
use Rattle.wf_def.specs.Limit.{most_points}
use Rattle.wf_spelling.proofs.scan.layer.add_points.Given as goal

-- the points of the parts so far were added
abbrev pub invariant-loop-part : goal.invariant-loop-part
invariant-loop-part l = (l.sum ≡ l.count + sum_by length (take l.part-index l.parts)) × (l.sum ≤ most_points)
