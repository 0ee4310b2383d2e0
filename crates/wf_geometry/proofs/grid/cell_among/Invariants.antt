use Rattle.std.proofs.Common.{◌≡◌, ℕ, ◌<◌, ◌^◌, false, ℤ}
use Rattle.wf_geometry.specs.Grid.{is_box}
use Rattle.wf_geometry.proofs.grid.cell_among.Given as goal

-- no lower level has a cell that the box is
abbrev pub invariant-loop-z : goal.invariant-loop-z
invariant-loop-z l = (z : ℕ) → z < l.z → (col row : ℤ) → is_box l.extent l.bbox (2 ^ z) col row ≡ false
