use Rattle.std.proofs.Common.{◌≡◌, length, slice_get, Some, refl, sym, ap, ◌∙◌, arith}
use Rattle.std.proofs.lemmas.Option.{slice_get_read}
use Rattle.wf_def.specs.Attribute.{class_of}
use Rattle.wf_def.specs.declared.choice.LayerKind.TheVariants.{Points, Lines, Polygons}
use Rattle.wf_geometry.specs.Operation.{feature_operations, line, polygon}
use Rattle.wf_geometry.proofs.OperationLemmas.{feature_styled}
use Rattle.wf_paint.proofs.ShownLemmas.{IsShown-none}
use Rattle.wf_paint.proofs.painter.draw_feature.Goals as goal

pub returns-in_default : goal.returns-in_default
unfolding feature_operations
returns-in_default c = rw (← c.class_of.ensures.class, c.in_default.is) (IsShown-none c.args.canvas.now)

pub returns-in-Points : goal.returns-in-Points
returns-in-Points c =
    let view = c.args.view.now in
    let layer = c.args.layer.now in
    let feature = c.args.feature.now in
    let named : class_of layer feature ≡ Some c.in-Some.index = sym c.class_of.ensures.class ∙ c.in-Some.is in
    let read : slice_get c.classes.result.now c.in-Some.index ≡ Some c.index-classes-index.result =
    slice_get_read c.classes.result.now (length c.classes.result.now) c.in-Some.index c.index-classes-index.result refl (omega (arith, ap length c.classes.ensures.value, c.in-Some.ensures.within)) c.index-classes-index.is in
    let found : slice_get layer.classes c.in-Some.index ≡ Some c.index-classes-index.result = rw c.classes.ensures.value at read in
    let kind : layer.kind ≡ Points = sym c.kind.ensures.value ∙ c.in-Points.is in
    rw (feature_styled view layer feature Points c.in-Some.index c.index-classes-index.result named found kind)
    (rw (c.parts-parts.ensures.value, c.styles-styles.ensures.value) at c.draw_markers.ensures)

pub returns-in_ok-segments-in-Lines : goal.returns-in_ok-segments-in-Lines
unfolding line
returns-in_ok-segments-in-Lines c =
    let view = c.args.view.now in
    let layer = c.args.layer.now in
    let feature = c.args.feature.now in
    let named : class_of layer feature ≡ Some c.in-Some.index = sym c.class_of.ensures.class ∙ c.in-Some.is in
    let read : slice_get c.classes.result.now c.in-Some.index ≡ Some c.index-classes-index.result =
    slice_get_read c.classes.result.now (length c.classes.result.now) c.in-Some.index c.index-classes-index.result refl (omega (arith, ap length c.classes.ensures.value, c.in-Some.ensures.within)) c.index-classes-index.is in
    let found : slice_get layer.classes c.in-Some.index ≡ Some c.index-classes-index.result = rw c.classes.ensures.value at read in
    let kind : layer.kind ≡ Lines = sym c.kind.ensures.value ∙ c.in-Lines.is in
    rw (feature_styled view layer feature Lines c.in-Some.index c.index-classes-index.result named found kind)
    (rw (c.in_ok-segments-in-Lines.ensures, c.in_ok-paths-in-Lines.ensures, c.parts-parts.ensures.value, c.styles-styles.ensures.value) at c.draw_lines.ensures)

pub returns-in_ok-edges-in-Polygons : goal.returns-in_ok-edges-in-Polygons
unfolding polygon
returns-in_ok-edges-in-Polygons c =
    let view = c.args.view.now in
    let layer = c.args.layer.now in
    let feature = c.args.feature.now in
    let named : class_of layer feature ≡ Some c.in-Some.index = sym c.class_of.ensures.class ∙ c.in-Some.is in
    let read : slice_get c.classes.result.now c.in-Some.index ≡ Some c.index-classes-index.result =
    slice_get_read c.classes.result.now (length c.classes.result.now) c.in-Some.index c.index-classes-index.result refl (omega (arith, ap length c.classes.ensures.value, c.in-Some.ensures.within)) c.index-classes-index.is in
    let found : slice_get layer.classes c.in-Some.index ≡ Some c.index-classes-index.result = rw c.classes.ensures.value at read in
    let kind : layer.kind ≡ Polygons = sym c.kind.ensures.value ∙ c.in-Polygons.is in
    rw (feature_styled view layer feature Polygons c.in-Some.index c.index-classes-index.result named found kind)
    (rw (c.in_ok-edges-in-Polygons.ensures, c.in_ok-rings-in-Polygons.ensures, c.parts-parts.ensures.value, c.styles-styles.ensures.value) at c.draw_polygons.ensures)
