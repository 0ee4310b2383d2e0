use Rattle.std.proofs.Common.{◌≡◌, sym, subst, subst₂, Bool, true, false}
use Rattle.wf_def.specs.Extent.{ExtentValue}
use Rattle.wf_geometry.specs.Grid.{fits}
use Rattle.wf_geometry.specs.declared.grid.GridCell.{GridCell}
use Rattle.wf_picture.specs.declared.request.Size.{Size}
use Rattle.wf_wms.specs.Plan.{IsPictureFor}
use Rattle.wf_wms.proofs.CachedPicturesTheorem.{none_used, on_ok_anyway, picture_asked, tile_asked, tile_used}
use Rattle.wf_wms.proofs.drawing.draw_by.Goals as goal

fits_asked : (e extent b box : ExtentValue) (s size : Size) (cell : GridCell) (does : Bool) → e ≡ extent → b ≡ box → s ≡ size → fits e b s.width s.height cell ≡ does →
    fits extent box size.width size.height cell ≡ does
fits_asked e extent b box s size cell does same_extent same_box same_size found =
    subst (λ (x : ExtentValue). fits x box size.width size.height cell ≡ does) same_extent
    (subst₂ (λ (y : ExtentValue) (z : Size). fits e y z.width z.height cell ≡ does) same_box same_size found)

pub tile-requires-clause-tile : goal.tile-requires-clause-tile
tile-requires-clause-tile c =
    let map = c.published_map-map.result.now in
    let request = c.args.asked.request in
    let found = fits_asked c.extent.result map.extent c.bbox.result request.bbox c.size-size.result request.size c.in-Some.cell true c.extent.ensures.value c.bbox.ensures.value c.size-size.ensures.value c.in-Some.ensures.found in
    tile_asked c.args.history.now.definitions c.args.asked c.requires.asked map c.published_map-map.ensures c.in-Some.cell c.view_of-view.result c.of-key.result found c.view_of-view.ensures.is
    c.of-key.ensures.sequence c.of-key.ensures.layers c.of-key.ensures.cell c.view_of-view.ensures.within

pub returns-in_ok-tile-in-Some-clause-answer : goal.returns-in_ok-tile-in-Some-clause-answer
returns-in_ok-tile-in-Some-clause-answer c =
    let map = c.published_map-map.result.now in
    let request = c.args.asked.request in
    let found = fits_asked c.extent.result map.extent c.bbox.result request.bbox c.size-size.result request.size c.in-Some.cell true c.extent.ensures.value c.bbox.ensures.value c.size-size.ensures.value c.in-Some.ensures.found in
    subst (IsPictureFor c.args.history.now.definitions c.args.asked) (sym c.picture.ensures)
    (picture_asked c.args.history.now.definitions c.args.asked c.requires.asked map c.published_map-map.ensures c.in-Some.cell c.view_of-view.result c.of-key.result found c.view_of-view.ensures.is
    c.of-key.ensures.sequence c.of-key.ensures.layers c.of-key.ensures.background c.in_ok-tile-in-Some.field-0.items c.in_ok-tile-in-Some.ensures.file)

-- what becomes of the cache

pub returns-in_ok-tile-in-Some-clause-used : goal.returns-in_ok-tile-in-Some-clause-used
returns-in_ok-tile-in-Some-clause-used c =
    let map = c.published_map-map.result.now in
    let request = c.args.asked.request in
    let found = fits_asked c.extent.result map.extent c.bbox.result request.bbox c.size-size.result request.size c.in-Some.cell true c.extent.ensures.value c.bbox.ensures.value c.size-size.ensures.value c.in-Some.ensures.found in
    tile_used c.args.history.now.definitions c.args.asked c.requires.asked map c.published_map-map.ensures c.in-Some.cell c.view_of-view.result c.of-key.result found c.view_of-view.ensures.is
    c.of-key.ensures.sequence c.of-key.ensures.layers c.of-key.ensures.cell c.of-key.ensures.background c.args.cache.now c.tile.new.self c.in_ok-tile-in-Some.ensures.used

pub returns-in-None-clause-used : goal.returns-in-None-clause-used
returns-in-None-clause-used c =
    let map = c.published_map-map.result.now in
    let request = c.args.asked.request in
    on_ok_anyway c.draw_uncached.result
    (none_used c.args.history.now.definitions c.args.asked map c.args.cache.now c.published_map-map.ensures
    (λ cell. fits_asked c.extent.result map.extent c.bbox.result request.bbox c.size-size.result request.size cell false c.extent.ensures.value c.bbox.ensures.value c.size-size.ensures.value (c.in-None.ensures.none cell)))
