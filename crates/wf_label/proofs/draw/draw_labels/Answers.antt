use Rattle.std.proofs.Common.{◌≡◌, [], drop, length, arith}
use Rattle.std.proofs.lemmas.List.{drop_all}
use Rattle.wf_label.proofs.InkLemmas.{IsInked-none, label_drawn}
use Rattle.wf_label.proofs.draw.draw_labels.Goals as goal

pub loop-index-init : goal.loop-index-init
loop-index-init c =
    let p = c.args.pixmap.now in
    let none : drop (length c.args.labels.now) c.args.labels.now ≡ [] = drop_all (length c.args.labels.now) c.args.labels.now (omega arith) in
    rw none (IsInked-none p)

pub loop-index-preserved : goal.loop-index-preserved
loop-index-preserved c =
    label_drawn c.args.labels.now c.loop-index.index _ c.args.pixmap.now c.loop-index.pixmap c.draw_label.new.pixmap (omega arith) (omega arith) c.loop-index.invariant c.draw_label.ensures
