use Rattle.wf_label.proofs.MeaningLemmas.{candidates_imply}
use Rattle.wf_label.proofs.placement.place.Goals as goal

pub place_among-requires : goal.place_among-requires
place_among-requires c = rw (c.deref.ensures.value, c.in_ok-labels.ensures) (candidates_imply c.args.map.now c.args.layers.now c.args.view.now)
