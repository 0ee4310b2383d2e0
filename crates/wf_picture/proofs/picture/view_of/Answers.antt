use Rattle.std.proofs.Common.{◌≡◌, subst₂}
use Rattle.wf_def.specs.Extent.{ExtentValue}
use Rattle.wf_geometry.specs.Tile.{IsViewOf}
use Rattle.wf_geometry.specs.View.{ViewValue}
use Rattle.wf_picture.specs.Picture.{IsViewFor}
use Rattle.wf_picture.specs.Request.{RequestValue}
use Rattle.wf_picture.specs.declared.request.Size.{Size}
use Rattle.wf_picture.proofs.ViewLemmas.{columns_within, rows_within}
use Rattle.wf_picture.proofs.picture.view_of.Goals as goal

view_for : (e box : ExtentValue) (size : Size) (request : RequestValue) (view : ViewValue) → box ≡ request.bbox → size ≡ request.size →
    IsViewOf e box size.width size.height view → IsViewFor e request view
view_for e box size request view same_box same_size is =
    subst₂ (λ (b : ExtentValue) (s : Size). IsViewOf e b s.width s.height view) same_box same_size is

pub returns-clause-is : goal.returns-clause-is
returns-clause-is c =
    view_for c.args.map.now.extent c.bbox.result c.size-size.result c.args.request.now c.of.result c.bbox.ensures.value c.size-size.ensures.value c.of.ensures

pub returns-clause-within : goal.returns-clause-within
returns-clause-within c =
    let e = c.args.map.now.extent in
    let request = c.args.request.now in
    let is = view_for e c.bbox.result c.size-size.result request c.of.result c.bbox.ensures.value c.size-size.ensures.value c.of.ensures in
    record {
      columns = columns_within e request.bbox request.size.width request.size.height c.of.result is;
      rows = rows_within e request.bbox request.size.width request.size.height c.of.result is;
    }
