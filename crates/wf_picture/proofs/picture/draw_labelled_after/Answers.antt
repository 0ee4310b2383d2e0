use Rattle.wf_picture.proofs.PictureLemmas.{labelled_over}
use Rattle.wf_picture.proofs.picture.draw_labelled_after.Goals as goal

pub returns : goal.returns
returns c =
    let theorem = c.there_is_one_placed_set.ensures in
    let drawn = c.draw_labels.ensures in
    labelled_over theorem.one_list theorem.computed c.args.map.now c.args.layers.now c.args.view.now c.args.background _ c.in_ok-pixmap.pixmap _ c.in_ok-labels.ensures c.in_ok-pixmap.ensures
    (rw c.deref.ensures.value at drawn)
