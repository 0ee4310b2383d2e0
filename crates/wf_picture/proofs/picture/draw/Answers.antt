use Rattle.std.proofs.Common.{◌≡◌, ◌∙◌, ℕ, List, ap, sym, subst₂}
use Rattle.wf_def.specs.Definition.{Definition}
use Rattle.wf_def.specs.declared.color.Color.{Color}
use Rattle.wf_paint.specs.Pixmap.{PixmapValue, IsPicture}
use Rattle.wf_geometry.specs.View.{ViewValue}
use Rattle.wf_picture.specs.Image.{image}
use Rattle.wf_picture.specs.Picture.{labelled}
use Rattle.wf_picture.specs.Request.{RequestValue}
use Rattle.wf_picture.specs.declared.request.Size.{Size}
use Rattle.wf_picture.proofs.PictureLemmas.{ok_gives}
use Rattle.wf_picture.proofs.WholeLemmas.{whole_drawn}
use Rattle.wf_picture.proofs.picture.draw.Goals as goal

-- a picture of the request's parts is one of the request
of_request : (map : Definition) (layers : List ℕ) (background : Color) (request : RequestValue) (view : ViewValue) (p : PixmapValue) → layers ≡ request.layers →
    background ≡ request.background → IsPicture view.width view.height (labelled map layers view background) p →
    IsPicture view.width view.height (labelled map request.layers view request.background) p
of_request map layers background request view p same_layers same_background shows =
    subst₂ (λ (l : List ℕ) (b : Color). IsPicture view.width view.height (labelled map l view b) p) same_layers same_background shows

pub returns-then-is_whole : goal.returns-then-is_whole
returns-then-is_whole c =
    let map = c.args.map.now in
    let request = c.args.request.now in
    let view = c.view_of-view.result in
    let size = c.size.ensures.value in
    let wide : view.width ≡ request.size.width = c.is_whole.ensures.wide c.if-is_whole.true ∙ ap (λ (s : Size). s.width) size in
    let high : view.height ≡ request.size.height = c.is_whole.ensures.high c.if-is_whole.true ∙ ap (λ (s : Size). s.height) size in
    ok_gives c.file_of.result
    (λ file drawn.
    whole_drawn map request view file.items c.view_of-view.ensures.is c.view_of-view.ensures.within wide high
    (drawn
    ∙ ap (λ (layers : List ℕ). image view.width view.height (labelled map layers view c.background-background.result)) c.layers-layers.ensures.value
    ∙ ap (λ (background : Color). image view.width view.height (labelled map request.layers view background)) c.background-background.ensures.value))
    c.file_of.ensures

pub returns : goal.returns
returns c =
    let request = c.args.request.now in
    let view = c.view_of-view.result in
    let shows = of_request c.args.map.now c.layers-layers.result.now c.background-background.result request view c.in_ok-pixmap.pixmap c.layers-layers.ensures.value c.background-background.ensures.value c.in_ok-pixmap.ensures in
    ok_gives c.cut.result (λ file drawn. drawn c.args.map.now request (sym c.size-2.ensures.value) c.view_of-view.ensures.is shows) c.cut.ensures
