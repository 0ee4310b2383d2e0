use Rattle.std.proofs.Common.{◌≡◌, true, sym, ap, ◌∙◌}
use Rattle.std.proofs.lemmas.Bool.{false≢true}
use Rattle.wf_def.specs.Extent.{ExtentValue}
use Rattle.wf_geometry.specs.Grid.{fits}
use Rattle.wf_geometry.specs.Tile.{tile_view}
use Rattle.wf_geometry.proofs.GridLemmas.{fit_level, one_cell}
use Rattle.wf_geometry.proofs.view.View.of.Goals as goal

pub tile_view-requires-clause-level : goal.tile_view-requires-clause-level
tile_view-requires-clause-level c =
    let fit : fits c.args.map.now.extent c.args.bbox.now c.args.width c.args.height c.in-Some.cell ≡ true = rw (← c.extent.ensures.value) c.in-Some.ensures.found in
    rw c.extent-in-Some.ensures.value (fit_level c.args.map.now.extent c.args.bbox.now c.args.width c.args.height c.in-Some.cell fit)

pub returns-in-Some : goal.returns-in-Some
returns-in-Some c =
    let fit : fits c.args.map.now.extent c.args.bbox.now c.args.width c.args.height c.in-Some.cell ≡ true = rw (← c.extent.ensures.value) c.in-Some.ensures.found in
    record {
      tile = λ cell other. c.tile_view.ensures ∙ ap (λ (e : ExtentValue). tile_view e c.in-Some.cell) c.extent-in-Some.ensures.value
          ∙ ap (tile_view c.args.map.now.extent) (one_cell c.args.map.now.extent c.args.bbox.now c.args.width c.args.height c.in-Some.cell cell fit other);
      plain = λ none. absurd (false≢true (sym (none c.in-Some.cell) ∙ fit));
    }
