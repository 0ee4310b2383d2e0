use Rattle.std.proofs.Common.{sym, ap, ◌∙◌, arith}
use Rattle.std.specs.Option.{option_map}
use Rattle.wf_label.specs.Walk.{candidate_of, candidate_value, candidate_values}
use Rattle.wf_label.proofs.LabelLemmas.{item_pushed, item_skipped}
use Rattle.wf_label.proofs.label_order.push_layer.Goals as goal
use Rattle.wf_label.proofs.label_order.push_layer.Goals.{in-Some+in_ok-push-in-Some, in-None}

pub loop-feature-preserved : goal.loop-feature-preserved
loop-feature-preserved c =
    let candidate_at = candidate_of c.args.view.now c.args.layer.now in
    let features = c.features-feature-items.result.now in
    let old = candidate_values c.args.walked.now.items in
    elim c.match-candidate_of.branch [
      | in-Some+in_ok-push-in-Some w ↦ rw (w.walked-is, w.in_ok-push-in-Some.ensures.items)
          (item_pushed candidate_value candidate_at features c.loop-feature.feature-index c.feature-item.result c.feature-item.result (omega arith) c.feature-item.is old c.loop-feature.walked.items
          c.loop-feature.invariant w.in-Some.candidate (sym c.candidate_of.ensures ∙ ap (option_map candidate_value) w.in-Some.is))
      | in-None w ↦ rw w.walked-is
          (item_skipped candidate_value candidate_at features c.loop-feature.feature-index c.feature-item.result c.feature-item.result (omega arith) c.feature-item.is old c.loop-feature.walked.items
          c.loop-feature.invariant (sym c.candidate_of.ensures ∙ ap (option_map candidate_value) w.in-None.is))
    ]
