use Rattle.std.proofs.Common.{[], slice_get, arith}
use Rattle.wf_label.specs.Walk.{candidate_values, entry_candidates}
use Rattle.wf_label.proofs.LabelLemmas.{layer_pushed}
use Rattle.wf_label.proofs.label_order.walk.Goals as goal

pub loop-index-preserved : goal.loop-index-preserved
loop-index-preserved c =
    layer_pushed (λ i. entry_candidates c.args.view.now (slice_get c.args.map.now.layers i)) c.args.layers.now c.loop-index.index 0
    [] (candidate_values c.loop-index.walked.items) _ (omega arith) (omega arith) c.loop-index.invariant
    (rw c.layer.ensures.value c.in_ok-push_layer.ensures)
