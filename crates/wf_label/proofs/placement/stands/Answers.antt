use Rattle.wf_label.proofs.TakenLemmas.{widened_solid}
use Rattle.wf_label.proofs.placement.stands.Goals as goal

pub meets_any-requires-clause-solid : goal.meets_any-requires-clause-solid
meets_any-requires-clause-solid c = rw c.widen.ensures (widened_solid c.args.label.now.buffer c.box_of-pixel_box.result (c.box_of-pixel_box.ensures.solid c.requires.text))
