use Rattle.std.proofs.Common.{◌≡◌, ℕ, ◌-◌, ◌*◌, ◌<◌, ◌≤◌, false}
use Rattle.wf_paint.specs.Cells.{is_free}
use Rattle.wf_paint.proofs.canvas.first_free.Given as goal

-- no word before this one has a free pixel
abbrev pub invariant-loop-here : goal.invariant-loop-here
invariant-loop-here l = (l.here ≤ l.end) × ((i : ℕ) → i < 64 * l.here → is_free l.free.items i ≡ false)

abbrev pub decreases-loop-here : goal.decreases-loop-here
decreases-loop-here l = l.end - l.here
