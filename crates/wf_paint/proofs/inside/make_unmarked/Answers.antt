use Rattle.std.proofs.Common.{◌+◌}
use Rattle.wf_paint.proofs.MarksLemmas.{clear_made}
use Rattle.wf_paint.proofs.inside.make_unmarked.Goals as goal

pub returns-clause-clear : goal.returns-clause-clear
returns-clause-clear c = clear_made (c.args.most + 1) c.in_ok-marks.marks.items (c.in_ok-marks.ensures.items_if_clones_equal (λ y e. e))
