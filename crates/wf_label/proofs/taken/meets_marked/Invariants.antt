use Rattle.std.proofs.Common.{◌≡◌, ℕ, ◌+◌, ◌*◌, ◌<◌, false, true}
use Rattle.wf_label.specs.Taken.{is_marked}
use Rattle.wf_label.proofs.ColoredLemmas.{in_rows}
use Rattle.wf_label.proofs.taken.meets_marked.Given as goal

-- in the rows so far none is marked
abbrev pub invariant-loop-row : goal.invariant-loop-row
invariant-loop-row l = (k m : ℕ) → k < l.view.width → m < l.view.height → in_rows l.pixel_box l.block.bottom l.row k m ≡ true → is_marked l.marks (m * l.view.width + k) ≡ false
