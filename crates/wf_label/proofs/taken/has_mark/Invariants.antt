use Rattle.std.proofs.Common.{◌≡◌, ℕ, ◌-◌, ◌≤◌, ◌<◌, false}
use Rattle.wf_label.specs.Taken.{is_marked}
use Rattle.wf_label.proofs.taken.has_mark.Given as goal

-- none so far is marked
abbrev pub invariant-loop-here : goal.invariant-loop-here
invariant-loop-here l = record {
  from : l.start ≤ l.here;
  none : (n : ℕ) → l.start ≤ n → n < l.here → is_marked l.marks n ≡ false;
}

abbrev pub decreases-loop-here : goal.decreases-loop-here
decreases-loop-here l = l.end - l.here
