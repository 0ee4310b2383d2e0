-- What drawing the placed labels over what is painted leaves of a picture.
use Rattle.std.proofs.Common.{◌≡◌, ℕ, List, Result, Ok, Err, IfOk, ℤ, sym, ap, subst₂, ◌∙◌}
use Rattle.wf_def.specs.Definition.{Definition}
use Rattle.wf_def.specs.declared.color.Color.{Color}
use Rattle.wf_geometry.specs.Operation.{operations, color_at}
use Rattle.wf_paint.specs.Pixmap.{PixmapValue, IsPicture}
use Rattle.wf_geometry.specs.View.{ViewValue}
use Rattle.wf_geometry.specs.declared.view.Corner.{Corner}
use Rattle.wf_label.specs.Ink.{inked, IsInked}
use Rattle.wf_label.specs.Label.{candidates}
use Rattle.wf_label.specs.Placed.{PlacedValue}
use Rattle.wf_label.specs.LabelLayout.{IsLayout, EachListHasOneLayout, PlacedIsTheLayout, placed_of}
use Rattle.wf_picture.specs.Image.{image}
use Rattle.wf_picture.specs.Picture.{placed, labelled, corner_of, crop, picture, IsImageOf, IsViewFor}
use Rattle.wf_picture.specs.Request.{RequestValue}
use Rattle.wf_picture.specs.declared.request.Size.{Size}

-- labels over a picture make the picture of their colours over its own
inked_over : (labels : List PlacedValue) (width height : ℕ) (below : ℤ → ℤ → Color) (old new : PixmapValue) → IsPicture width height below old → IsInked labels old new →
    IsPicture width height (λ column row. inked labels (below column row) column row) new
inked_over labels width height below old new shows drawn = record {
  wide = drawn.width ∙ shows.wide;
  high = drawn.height ∙ shows.high;
  pixels = λ i within.
      let here = shows.pixels i within in
      let over = drawn.pixels i (rw (shows.wide, shows.high) within) in
      let w = shows.wide in
      let h = shows.high in
      cc;
}

-- the labels that are placed are those of the definition
same_layout : EachListHasOneLayout → PlacedIsTheLayout → (map : Definition) (layers : List ℕ) (view : ViewValue) (labels : List PlacedValue) →
    IsLayout view (candidates map layers view) labels → labels ≡ placed map layers view
unfolding placed
same_layout one computed map layers view labels is =
    one view (candidates map layers view) (placed_of view (candidates map layers view)) labels (computed view (candidates map layers view)) is

pub labelled_over : EachListHasOneLayout → PlacedIsTheLayout → (map : Definition) (layers : List ℕ) (view : ViewValue) (background : Color) (labels : List PlacedValue) (old new : PixmapValue) →
    IsLayout view (candidates map layers view) labels → IsPicture view.width view.height (color_at (operations map layers view) background) old → IsInked labels old new →
    IsPicture view.width view.height (labelled map layers view background) new
unfolding labelled
labelled_over one computed map layers view background labels old new is shows drawn =
    let same = same_layout one computed map layers view labels is in
    inked_over (placed map layers view) view.width view.height (color_at (operations map layers view) background) old new shows (rw same at drawn)

-- what holds of a result's value holds of it when it follows from what is known of it
pub ok_gives : {X E : Type 0} {P Q : X → Type 0} (r : Result X E) → ((x : X) → P x → Q x) → IfOk r P → IfOk r Q
ok_gives (Ok x) follows known = follows x known
ok_gives (Err e) follows known = tt

-- the file of the part at the view's corner is the request's image
pub image_drawn : (map : Definition) (request : RequestValue) (size : Size) (view : ViewValue) (p : PixmapValue) (corner : Corner) (bytes : List ℕ) →
    request.size ≡ size → IsViewFor map.extent request view → IsPicture view.width view.height (labelled map request.layers view request.background) p →
    corner ≡ corner_of view → ((whole : ℤ → ℤ → Color) → IsPicture p.width p.height whole p → bytes ≡ image size.width size.height (crop corner whole)) →
    IsImageOf map request bytes
unfolding picture
image_drawn map request size view p corner bytes sized is shows at written =
    let whole = labelled map request.layers view request.background in
    let own : IsPicture p.width p.height whole p = subst₂ (λ (w h : ℕ). IsPicture w h whole p) (sym shows.wide) (sym shows.high) shows in
    record {
      view = view;
      is = is;
      file = written whole own
          ∙ ap (λ (c : Corner). image size.width size.height (crop c whole)) at
          ∙ ap (λ (s : Size). image s.width s.height (crop (corner_of view) whole)) (sym sized);
    }
