use Rattle.std.proofs.Common.{◌≡◌, true, false, FitsSigned, w64, to_z-of_z, rules}
use Rattle.wf_geometry.specs.Grid.{has_level, width_of}
use Rattle.wf_geometry.proofs.GridLemmas.{box_without_level, box_without_col, box_without_row, box_found}
use Rattle.wf_geometry.proofs.grid.box_at.Goals as goal

pub returns-then-not-has_level-clause-none : goal.returns-then-not-has_level-clause-none
returns-then-not-has_level-clause-none c = λ col row.
    let none : has_level (width_of c.args.extent) c.args.cells ≡ false = search rules in
    box_without_level c.args.extent c.args.bbox c.args.cells col row none

pub returns-in-None-clause-none : goal.returns-in-None-clause-none
returns-in-None-clause-none c = λ col row. box_without_col c.args.extent c.args.bbox c.args.cells col row (c.in-None.ensures.none col)

pub returns-in-None-row_of-clause-none : goal.returns-in-None-row_of-clause-none
returns-in-None-row_of-clause-none c = λ col row. box_without_row c.args.extent c.args.bbox c.args.cells col row (c.in-None-row_of.ensures.none row)

pub returns-in-Some-row_of-clause-found : goal.returns-in-Some-row_of-clause-found
returns-in-Some-row_of-clause-found c =
    let col : FitsSigned w64 c.in-Some.col = search rules in
    let row : FitsSigned w64 c.in-Some-row_of.row = search rules in
    let level : has_level (width_of c.args.extent) c.args.cells ≡ true = search rules in
    rw (to_z-of_z col, to_z-of_z row) (box_found c.args.extent c.args.bbox c.args.cells c.in-Some.col c.in-Some-row_of.row level c.in-Some.ensures.found c.in-Some-row_of.ensures.found)
