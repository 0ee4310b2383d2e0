use Rattle.std.proofs.Common.{◌≡◌, ◌≤◌, ◌<◌, ◌++◌, List, drop, length, false, ◌||◌, None, is_some, cond, max, sym, subst, arith}
use Rattle.std.specs.List.{flat_map}
use Rattle.std.proofs.lemmas.List.{drop_all}
use Rattle.wf_def.specs.Definition.{StyleDefinition}
use Rattle.wf_geometry.specs.Operation.{OperationValue, in_color, FillOf, LineOf}
use Rattle.wf_paint.specs.Styles.{filled_and_outlined}
use Rattle.wf_paint.specs.Shown.{IsShown}
use Rattle.wf_paint.proofs.ShownLemmas.{operations_more, IsShown-end, IsShown-stop}
use Rattle.wf_paint.proofs.StylesLemmas.{IsDrawn, IsDrawn-none, IsDrawn-alike, IsDrawn-line, IsDrawn-fill, IsDrawn-both}
use Rattle.wf_paint.proofs.painter.draw_polygons.Goals as goal

pub loop-index-init : goal.loop-index-init
loop-index-init c =
    let edges = c.args.edges.now in
    let styles = c.args.styles.now in
    subst (λ (rest : List StyleDefinition). IsDrawn edges (flat_map (filled_and_outlined edges) rest) false 0 c.args.canvas.now c.args.canvas.now)
    (sym (drop_all (length styles) styles (omega arith))) (IsDrawn-none edges c.args.canvas.now)

pub loop-index-preserved : goal.loop-index-preserved
loop-index-preserved c =
    let edges = c.args.edges.now in
    let styles = c.args.styles.now in
    let style = c.index-styles-index.result in
    let next = c.loop-index.index in
    let filled = c.loop-index.filled in
    let widest = c.loop-index.widest in
    let first = c.args.canvas.now in
    let outlined = c.draw_along.new.canvas in
    let inside = c.draw_inside.new.canvas in
    let behind = flat_map (filled_and_outlined edges) (drop next styles) in
    let before = IsDrawn-alike edges behind filled widest first c.loop-index.canvas c.is_full.new.self c.loop-index.invariant c.is_full.ensures.alike in
    let hidden : style.width ≤ widest → c.line_color-border.result ≡ None = rw (← c.get-width.ensures.value) c.line_color-border.ensures.hidden in
    let visible : widest < style.width → c.line_color-border.result ≡ style.outline_color = rw (← c.get-width.ensures.value) c.line_color-border.ensures.visible in
    let border : IsShown (in_color (LineOf style.width edges) c.line_color-border.result) c.is_full.new.self outlined = rw (← c.get-width.ensures.value) c.draw_along.ensures in
    let fill : IsShown (in_color (FillOf edges) (cond filled None style.color)) outlined inside = rw (← c.inner_color.ensures) c.in_ok-draw_inside.ensures in
    let line = IsDrawn-line edges behind filled widest style.width style.outline_color c.line_color-border.result first c.is_full.new.self outlined
    before c.get-width.ensures.least hidden visible border in
    let later = cond (is_some style.outline_color) (max widest style.width) widest in
    let drawn = IsDrawn-both edges behind style.width style.color style.outline_color (filled || is_some style.color) later first inside
    (IsDrawn-fill edges (in_color (LineOf style.width edges) style.outline_color ++ behind) filled later style.color first outlined inside line fill) in
    rw (c.is_some-filled.ensures, c.widest_line-widest.ensures, c.get-width.ensures.value)
    (subst (λ (ops : List OperationValue). IsDrawn edges ops (filled || is_some style.color) later first inside)
    (sym (operations_more (filled_and_outlined edges) styles next style style (omega arith) (omega arith) c.index-styles-index.is)) drawn)

pub returns-then-is_full : goal.returns-then-is_full
returns-then-is_full c =
    let edges = c.args.edges.now in
    let behind = flat_map (filled_and_outlined edges) (drop c.loop-index.index c.args.styles.now) in
    let before = IsDrawn-alike edges behind c.loop-index.filled c.loop-index.widest c.args.canvas.now c.loop-index.canvas c.is_full.new.self c.loop-index.invariant c.is_full.ensures.alike in
    IsShown-stop (filled_and_outlined edges) c.args.styles.now c.loop-index.index c.args.canvas.now c.is_full.new.self (c.is_full.ensures.full c.if-is_full.true) before.shown

pub returns : goal.returns
returns c = IsShown-end (filled_and_outlined c.args.edges.now) c.args.styles.now c.loop-index.index c.args.canvas.now c.loop-index.canvas (omega arith) c.loop-index.invariant.shown
