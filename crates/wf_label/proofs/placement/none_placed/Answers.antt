use Rattle.wf_label.proofs.TakenLemmas.{IsTaken-none}
use Rattle.wf_label.proofs.placement.none_placed.Goals as goal

pub returns-clause-taken : goal.returns-clause-taken
returns-clause-taken c = IsTaken-none c.args.view.now c.in_ok-marks.marks.items (rw (c.width.ensures.value, c.height.ensures.value) at (c.in_ok-marks.ensures.items_if_clones_equal (λ y e. e)))
