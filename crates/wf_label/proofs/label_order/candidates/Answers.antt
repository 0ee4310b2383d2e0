use Rattle.std.proofs.Common.{◌≡◌, ◌++◌, ◌-◌, ◌+◌, List, sym, ap, ◌∙◌, arith}
use Rattle.std.proofs.lemmas.List.{append-nil}
use Rattle.wf_def.specs.Limit.{most_priority}
use Rattle.wf_label.specs.Label.{candidates, labels_up_to}
use Rattle.wf_label.specs.Placed.{PlacedValue, placed_values}
use Rattle.wf_label.specs.Walk.{candidate_values, chosen, walk}
use Rattle.wf_label.proofs.LabelLemmas.{labels_up_to-none, priority_chosen, priority_pushed}
use Rattle.wf_label.proofs.label_order.candidates.Goals as goal

pub loop-lower-preserved : goal.loop-lower-preserved
loop-lower-preserved c =
    let map = c.args.map.now in
    let layers = c.args.layers.now in
    let view = c.args.view.now in
    let so_far = placed_values c.loop-lower.labels.items in
    let priority : c.loop-lower.lower - 1 + 1 ≡ c.loop-lower.lower = omega arith in
    let met : candidate_values c.deref.result.now ≡ walk map layers view = ap candidate_values c.deref.ensures.value ∙ c.in_ok-walked.ensures in
    let pushed = rw priority at c.in_ok-push_priority.ensures in
    priority_pushed map layers view c.loop-lower.lower so_far _ (labels_up_to map layers view most_priority) (omega arith) c.loop-lower.invariant
    (pushed ∙ ap (λ (l : List PlacedValue). so_far ++ l) (ap (chosen c.loop-lower.lower) met ∙ sym (priority_chosen map layers view c.loop-lower.lower)))

pub returns : goal.returns
unfolding candidates
returns c =
    let map = c.args.map.now in
    let layers = c.args.layers.now in
    let view = c.args.view.now in
    let labels = placed_values c.loop-lower.labels.items in
    let none : c.loop-lower.lower ≡ 0 = omega arith in
    sym (append-nil labels) ∙ ap (λ (rest : List PlacedValue). labels ++ rest) (sym (labels_up_to-none map layers view)) ∙ rw none at c.loop-lower.invariant
