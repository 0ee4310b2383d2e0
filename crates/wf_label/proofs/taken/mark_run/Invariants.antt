use Rattle.std.proofs.Common.{◌≡◌, ℕ, ◌-◌, ◌≤◌, ◌&&◌, ◌||◌, max, nat_lt}
use Rattle.std.specs.Prelude.{nat_le}
use Rattle.wf_label.specs.Taken.{is_marked}
use Rattle.wf_label.proofs.taken.mark_run.Given as goal

-- the indices so far are marked
abbrev pub invariant-loop-here : goal.invariant-loop-here
invariant-loop-here l = record {
  from : l.start ≤ l.here;
  to : l.here ≤ max l.end l.start;
  marked : (n : ℕ) → is_marked l.marks n ≡ ((nat_le l.start n && nat_lt n l.here) || is_marked l.initial.marks n);
}

abbrev pub decreases-loop-here : goal.decreases-loop-here
decreases-loop-here l = l.end - l.here
