use Rattle.std.proofs.Common.{◌≡◌, ◌≤◌, ◌<◌, List, drop, length, false, cond, max, None, is_some, sym, subst, arith}
use Rattle.std.specs.List.{flat_map}
use Rattle.std.proofs.lemmas.List.{drop_all}
use Rattle.wf_def.specs.Definition.{StyleDefinition}
use Rattle.wf_geometry.specs.Operation.{OperationValue, in_color, LineOf}
use Rattle.wf_paint.specs.Shown.{IsShown}
use Rattle.wf_paint.specs.Styles.{line_along}
use Rattle.wf_paint.proofs.ShownLemmas.{operations_more, IsShown-end, IsShown-stop}
use Rattle.wf_paint.proofs.StylesLemmas.{IsDrawn, IsDrawn-none, IsDrawn-alike, IsDrawn-line}
use Rattle.wf_paint.proofs.painter.draw_lines.Goals as goal

pub loop-index-init : goal.loop-index-init
loop-index-init c =
    let segments = c.args.segments.now in
    let styles = c.args.styles.now in
    subst (λ (rest : List StyleDefinition). IsDrawn segments (flat_map (line_along segments) rest) false 0 c.args.canvas.now c.args.canvas.now)
    (sym (drop_all (length styles) styles (omega arith))) (IsDrawn-none segments c.args.canvas.now)

pub loop-index-preserved : goal.loop-index-preserved
loop-index-preserved c =
    let segments = c.args.segments.now in
    let styles = c.args.styles.now in
    let style = c.index-styles-index.result in
    let next = c.loop-index.index in
    let widest = c.loop-index.widest in
    let behind = flat_map (line_along segments) (drop next styles) in
    let before = IsDrawn-alike segments behind false widest c.args.canvas.now c.loop-index.canvas c.is_full.new.self c.loop-index.invariant c.is_full.ensures.alike in
    let hidden : style.width ≤ widest → c.line_color-color.result ≡ None = rw (← c.get-width.ensures.value) c.line_color-color.ensures.hidden in
    let visible : widest < style.width → c.line_color-color.result ≡ style.color = rw (← c.get-width.ensures.value) c.line_color-color.ensures.visible in
    let painted : IsShown (in_color (LineOf style.width segments) c.line_color-color.result) c.is_full.new.self c.draw_along.new.canvas =
    rw (← c.get-width.ensures.value) c.draw_along.ensures in
    let drawn = IsDrawn-line segments behind false widest style.width style.color c.line_color-color.result c.args.canvas.now c.is_full.new.self c.draw_along.new.canvas
    before c.get-width.ensures.least hidden visible painted in
    rw (c.widest_line-widest.ensures, c.get-width.ensures.value)
    (subst (λ (ops : List OperationValue). IsDrawn segments ops false (cond (is_some style.color) (max widest style.width) widest) c.args.canvas.now c.draw_along.new.canvas)
    (sym (operations_more (line_along segments) styles next style style (omega arith) (omega arith) c.index-styles-index.is)) drawn)

pub returns-then-is_full : goal.returns-then-is_full
returns-then-is_full c =
    let segments = c.args.segments.now in
    let behind = flat_map (line_along segments) (drop c.loop-index.index c.args.styles.now) in
    let before = IsDrawn-alike segments behind false c.loop-index.widest c.args.canvas.now c.loop-index.canvas c.is_full.new.self c.loop-index.invariant c.is_full.ensures.alike in
    IsShown-stop (line_along segments) c.args.styles.now c.loop-index.index c.args.canvas.now c.is_full.new.self (c.is_full.ensures.full c.if-is_full.true) before.shown

pub returns : goal.returns
returns c = IsShown-end (line_along c.args.segments.now) c.args.styles.now c.loop-index.index c.args.canvas.now c.loop-index.canvas (omega arith) c.loop-index.invariant.shown
