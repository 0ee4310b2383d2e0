use Rattle.std.proofs.Common.{◌≡◌, ◌==◌, ◌&&◌, true, false, rules}
use Rattle.wf_geometry.specs.Limit.{tile_pixels}
use Rattle.wf_geometry.proofs.GridLemmas.{fits_size, fits_found, none_fits}
use Rattle.wf_geometry.proofs.grid.GridCell.of.Goals as goal

pub returns-then-not-is_tile-clause-none : goal.returns-then-not-is_tile-clause-none
returns-then-not-is_tile-clause-none c = λ cell.
    let other : ((c.args.width == tile_pixels) && (c.args.height == tile_pixels)) ≡ false = search rules in
    fits_size c.args.extent c.args.bbox c.args.width c.args.height cell other

pub returns-clause-found : goal.returns-clause-found
returns-clause-found c =
    let tile : ((c.args.width == tile_pixels) && (c.args.height == tile_pixels)) ≡ true = search rules in
    fits_found c.args.extent c.args.bbox c.args.width c.args.height c.cell_among.result tile c.cell_among.ensures.found c.cell_among.ensures.near

pub returns-clause-none : goal.returns-clause-none
returns-clause-none c = none_fits c.args.extent c.args.bbox c.args.width c.args.height c.cell_among.result c.cell_among.ensures.none
