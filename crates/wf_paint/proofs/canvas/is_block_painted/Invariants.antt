use Rattle.std.proofs.Common.{◌≡◌, ℕ, ◌+◌, ◌-◌, ◌*◌, ◌/◌, ◌<◌, false}
use Rattle.wf_paint.specs.Cells.{is_free}
use Rattle.wf_paint.proofs.canvas.is_block_painted.Given as goal

-- the rows before this one are painted in the block
abbrev pub invariant-loop-row : goal.invariant-loop-row
invariant-loop-row l = (column r : ℕ) → r < l.row → r < l.height → column < l.width → r / 16 ≡ l.index → column / 16 ≡ l.block →
    is_free l.free.items ((l.height - 1 - r) * l.width + column) ≡ false
