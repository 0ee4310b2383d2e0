use Rattle.std.proofs.Common.{drop, arith}
use Rattle.std.specs.List.{flat_map}
use Rattle.wf_def.specs.Definition.{StyleDefinition}
use Rattle.wf_geometry.specs.Operation.{squares}
use Rattle.wf_paint.specs.Shown.{IsShown}
use Rattle.wf_paint.proofs.ShownLemmas.{IsShown-begin, IsShown-more, IsShown-end, IsShown-stop, IsShown-alike}
use Rattle.wf_paint.proofs.painter.draw_markers.Goals as goal

pub loop-index-init : goal.loop-index-init
loop-index-init c = IsShown-begin (λ style. squares c.args.view.now style c.args.parts.now) c.args.styles.now c.args.canvas.now

pub loop-index-preserved : goal.loop-index-preserved
loop-index-preserved c =
    let operations_of = λ (style : StyleDefinition). squares c.args.view.now style c.args.parts.now in
    let styles = c.args.styles.now in
    let behind : IsShown (flat_map operations_of (drop c.loop-index.index styles)) c.args.canvas.now c.is_full.new.self =
    IsShown-alike (flat_map operations_of (drop c.loop-index.index styles)) c.args.canvas.now c.loop-index.canvas c.is_full.new.self c.loop-index.invariant c.is_full.ensures.alike in
    IsShown-more operations_of styles c.loop-index.index c.index-styles-index.result c.index-styles-index.result c.args.canvas.now c.is_full.new.self _ (omega arith) (omega arith) c.index-styles-index.is behind c.draw_squares.ensures

pub returns-then-is_full : goal.returns-then-is_full
returns-then-is_full c =
    let operations_of = λ (style : StyleDefinition). squares c.args.view.now style c.args.parts.now in
    let styles = c.args.styles.now in
    let behind : IsShown (flat_map operations_of (drop c.loop-index.index styles)) c.args.canvas.now c.is_full.new.self =
    IsShown-alike (flat_map operations_of (drop c.loop-index.index styles)) c.args.canvas.now c.loop-index.canvas c.is_full.new.self c.loop-index.invariant c.is_full.ensures.alike in
    IsShown-stop operations_of styles c.loop-index.index c.args.canvas.now c.is_full.new.self (c.is_full.ensures.full c.if-is_full.true) behind

pub returns : goal.returns
returns c = IsShown-end (λ style. squares c.args.view.now style c.args.parts.now) c.args.styles.now c.loop-index.index c.args.canvas.now c.loop-index.canvas (omega arith) c.loop-index.invariant
