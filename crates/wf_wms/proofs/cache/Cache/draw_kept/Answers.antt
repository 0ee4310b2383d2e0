use Rattle.wf_wms.proofs.CachedPicturesTheorem.{drawn_cached, drawn_shows, shows_request}
use Rattle.wf_wms.proofs.cache.Cache.draw_kept.Goals as goal

pub returns-clause-file : goal.returns-clause-file
returns-clause-file c =
    let history = c.args.history.now.definitions in
    let view = c.args.view.now in
    let p = c.in_ok-pixmap.pixmap in
    let shows = drawn_shows history c.args.key view p c.requires.tile c.published_map-map.result.now c.deref.result.now c.background.result
    c.published_map-map.ensures c.deref.ensures.value c.background.ensures c.in_ok-pixmap.ensures in
    let cached = drawn_cached history c.args.key view p c.requires.tile c.tiles_are_crops_of_one_picture.ensures.one_picture shows in
    λ map request there is views. c.in_ok-file.ensures map request is.size views (shows_request history c.args.key view p c.requires.tile cached map request there is)

pub returns-clause-cached : goal.returns-clause-cached
returns-clause-cached c =
    let history = c.args.history.now.definitions in
    let view = c.args.view.now in
    let p = c.in_ok-pixmap.pixmap in
    let shows = drawn_shows history c.args.key view p c.requires.tile c.published_map-map.result.now c.deref.result.now c.background.result
    c.published_map-map.ensures c.deref.ensures.value c.background.ensures c.in_ok-pixmap.ensures in
    c.keep.ensures.cached history c.requires.cached (drawn_cached history c.args.key view p c.requires.tile c.tiles_are_crops_of_one_picture.ensures.one_picture shows)
