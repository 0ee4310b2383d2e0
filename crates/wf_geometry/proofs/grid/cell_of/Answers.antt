use Rattle.std.proofs.Common.{◌≡◌, true, ℤ, FitsSigned, w64, to_z-of_z, sym, ◌∙◌, rules}
use Rattle.wf_geometry.specs.Grid.{is_on_line, is_cell}
use Rattle.wf_geometry.proofs.GridLemmas.{cell_none}
use Rattle.wf_geometry.proofs.grid.cell_of.Goals as goal

pub returns-else-is_cell-clause-none : goal.returns-else-is_cell-clause-none
returns-else-is_cell-clause-none c =
    let least = c.ranges.least in
    let low = c.ranges.low in
    let high = c.ranges.high in
    let line : FitsSigned w64 c.line_near-k.result = search rules in
    let only : (j : ℤ) → is_on_line c.args.least c.args.width c.args.cells j c.args.low ≡ true → j ≡ c.line_near-k.result = simp to_z-of_z at c.line_near-k.ensures.only in
    let compared : c.is_cell.result ≡ is_cell c.args.least c.args.width c.args.cells c.line_near-k.result c.args.low c.args.high = simp to_z-of_z at c.is_cell.ensures in
    cell_none c.args.least c.args.width c.args.cells c.args.low c.args.high c.line_near-k.result only (sym compared ∙ c.if-is_cell.false)
