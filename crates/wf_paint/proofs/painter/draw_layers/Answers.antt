use Rattle.std.proofs.Common.{◌≡◌, ◌+◌, ◌-◌, get_or, slice_get, drop, refl, arith}
use Rattle.std.specs.List.{Contains}
use Rattle.wf_geometry.specs.Operation.{entry_operations, operations}
use Rattle.wf_paint.proofs.ShownLemmas.{IsShown-begin, IsShown-more, IsShown-again, IsShown-end}
use Rattle.wf_paint.proofs.painter.draw_layers.Goals as goal

pub loop-index-init : goal.loop-index-init
loop-index-init c = IsShown-begin (λ i. entry_operations c.args.view.now (slice_get c.args.map.now.layers i)) c.args.layers.now c.args.canvas.now

pub loop-index-preserved-then-is_named_again : goal.loop-index-preserved-then-is_named_again
loop-index-preserved-then-is_named_again c =
    let layers = c.args.layers.now in
    let index = c.loop-index.index in
    let follows : index - 1 + 1 ≡ index = omega arith in
    let again : Contains (drop index layers) (get_or layers (index - 1) 0) = rw follows at (c.is_named_again.ensures.0 c.if-is_named_again.true) in
    IsShown-again (λ i. entry_operations c.args.view.now (slice_get c.args.map.now.layers i)) layers index (get_or layers (index - 1) 0) 0 c.args.canvas.now c.loop-index.canvas
    (omega arith) (omega arith) refl again c.loop-index.invariant

pub loop-index-preserved : goal.loop-index-preserved
loop-index-preserved c =
    let layers = c.args.layers.now in
    let index = c.loop-index.index in
    IsShown-more (λ i. entry_operations c.args.view.now (slice_get c.args.map.now.layers i)) layers index (get_or layers (index - 1) 0) 0 c.args.canvas.now c.loop-index.canvas _
    (omega arith) (omega arith) refl c.loop-index.invariant (rw c.layer.ensures.value c.in_ok-draw_layer.ensures)

pub returns : goal.returns
unfolding operations
returns c = IsShown-end (λ i. entry_operations c.args.view.now (slice_get c.args.map.now.layers i)) c.args.layers.now c.loop-index.index c.args.canvas.now c.loop-index.canvas (omega arith) c.loop-index.invariant
