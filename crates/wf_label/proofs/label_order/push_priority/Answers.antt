use Rattle.std.proofs.Common.{arith}
use Rattle.std.proofs.lemmas.List.{take_all}
use Rattle.wf_label.specs.Placed.{placed_values}
use Rattle.wf_label.proofs.LabelLemmas.{candidate_pushed, candidate_skipped, chosen_values}
use Rattle.wf_label.proofs.label_order.push_priority.Goals as goal
use Rattle.wf_label.proofs.label_order.push_priority.Goals.{then-candidate-priority+in_ok-push, else-candidate-priority}

pub loop-candidate-preserved : goal.loop-candidate-preserved
loop-candidate-preserved c =
    let old = placed_values c.args.labels.now.items in
    elim c.if-candidate-priority.branch [
      | then-candidate-priority+in_ok-push w ↦ rw (w.labels-is, w.in_ok-push.ensures.items)
          (candidate_pushed c.args.priority c.args.walked.now c.loop-candidate.candidate-index _ old c.loop-candidate.labels.items (omega arith) c.loop-candidate.invariant w.if-candidate-priority.true)
      | else-candidate-priority w ↦ rw w.labels-is
          (candidate_skipped c.args.priority c.args.walked.now c.loop-candidate.candidate-index _ old c.loop-candidate.labels.items (omega arith) c.loop-candidate.invariant w.if-candidate-priority.false)
    ]

pub returns : goal.returns
returns c =
    let walked = c.args.walked.now in
    let whole = take_all c.loop-candidate.candidate-index walked (omega arith) in
    rw (chosen_values c.args.priority walked) (rw whole at c.loop-candidate.invariant)
