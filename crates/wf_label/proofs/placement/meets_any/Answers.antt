use Rattle.wf_label.specs.Placed.{placed_values}
use Rattle.wf_label.proofs.TakenLemmas.{meets_is}
use Rattle.wf_label.proofs.placement.meets_any.Goals as goal

pub returns : goal.returns
returns c =
    let marks = rw c.deref.ensures.value at c.meets_marked.ensures in
    meets_is c.args.view.now c.args.pixel_box.now (placed_values c.args.layout.now.placed.items) c.args.layout.now.marks.items c.requires.solid c.requires.taken c.meets_marked.result marks.free marks.met
