use Rattle.std.proofs.Common.{◌≡◌, ℕ, ◌+◌, ◌*◌, ◌<◌, ◌||◌}
use Rattle.wf_label.specs.Taken.{is_marked}
use Rattle.wf_label.proofs.ColoredLemmas.{in_rows}
use Rattle.wf_label.proofs.taken.mark.Given as goal

-- the rows so far are marked
abbrev pub invariant-loop-row : goal.invariant-loop-row
invariant-loop-row l = (k m : ℕ) → k < l.view.width → m < l.view.height →
    is_marked l.marks (m * l.view.width + k) ≡ (in_rows l.pixel_box l.block.bottom l.row k m || is_marked l.initial.marks (m * l.view.width + k))
