use Rattle.std.proofs.Common.{List, drop, subst, arith}
use Rattle.std.specs.List.{flat_map}
use Rattle.wf_def.specs.Definition.{FeatureDefinition}
use Rattle.wf_geometry.specs.Operation.{feature_operations, layer_operations}
use Rattle.wf_paint.specs.Shown.{IsShown}
use Rattle.wf_paint.proofs.ShownLemmas.{IsShown-begin, IsShown-more, IsShown-end, IsShown-stop, IsShown-alike}
use Rattle.wf_paint.proofs.painter.draw_layer.Goals as goal

pub loop-index-init : goal.loop-index-init
loop-index-init c = IsShown-begin (feature_operations c.args.view.now c.args.layer.now) c.features-features.result.now c.args.canvas.now

pub loop-index-preserved : goal.loop-index-preserved
loop-index-preserved c =
    let operations_of = feature_operations c.args.view.now c.args.layer.now in
    let features = c.features-features.result.now in
    let behind : IsShown (flat_map operations_of (drop c.loop-index.index features)) c.args.canvas.now c.is_full.new.self =
    IsShown-alike (flat_map operations_of (drop c.loop-index.index features)) c.args.canvas.now c.loop-index.canvas c.is_full.new.self c.loop-index.invariant c.is_full.ensures.alike in
    IsShown-more operations_of features c.loop-index.index c.index-features-index.result c.index-features-index.result c.args.canvas.now c.is_full.new.self _ (omega arith) (omega arith) c.index-features-index.is behind c.in_ok-draw_feature.ensures

pub returns-then-is_full : goal.returns-then-is_full
unfolding layer_operations
returns-then-is_full c =
    let operations_of = feature_operations c.args.view.now c.args.layer.now in
    let features = c.features-features.result.now in
    let behind : IsShown (flat_map operations_of (drop c.loop-index.index features)) c.args.canvas.now c.is_full.new.self =
    IsShown-alike (flat_map operations_of (drop c.loop-index.index features)) c.args.canvas.now c.loop-index.canvas c.is_full.new.self c.loop-index.invariant c.is_full.ensures.alike in
    subst (λ (all : List FeatureDefinition). IsShown (flat_map operations_of all) c.args.canvas.now c.is_full.new.self) c.features-features.ensures.value
    (IsShown-stop operations_of features c.loop-index.index c.args.canvas.now c.is_full.new.self (c.is_full.ensures.full c.if-is_full.true) behind)

pub returns : goal.returns
unfolding layer_operations
returns c =
    let operations_of = feature_operations c.args.view.now c.args.layer.now in
    subst (λ (all : List FeatureDefinition). IsShown (flat_map operations_of all) c.args.canvas.now c.loop-index.canvas) c.features-features.ensures.value
    (IsShown-end operations_of c.features-features.result.now c.loop-index.index c.args.canvas.now c.loop-index.canvas (omega arith) c.loop-index.invariant)
