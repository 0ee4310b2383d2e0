use Rattle.std.proofs.Common.{◌≡◌, max, arith, rules}
use Rattle.wf_label.specs.Colored.{IsCutBefore}
use Rattle.wf_label.proofs.ColoredLemmas.{IsCut-same, rows_next, rows_all}
use Rattle.wf_label.proofs.fill.fill.Goals as goal

pub loop-row-preserved : goal.loop-row-preserved
loop-row-preserved c =
    let p = c.args.pixmap.now in
    let f = c.args.pixel_box.now in
    let begins : IsCutBefore p.width c.cut-left.result f.left = IsCut-same _ p.width c.cut-left.result _ f.left c.width.ensures.value (search rules) c.cut-left.ensures.value in
    let ends : IsCutBefore p.width c.cut-right.result f.right = IsCut-same _ p.width c.cut-right.result _ f.right c.width-2.ensures.value (search rules) c.cut-right.ensures.value in
    rows_next f c.cut-left.result c.cut-right.result c.cut-bottom.result c.cut-top.result c.args.color p c.loop-row.pixmap c.fill_row.new.pixmap begins ends
    c.loop-row.row (omega arith) c.loop-row.invariant c.fill_row.ensures

pub returns : goal.returns
returns c =
    let p = c.args.pixmap.now in
    let f = c.args.pixel_box.now in
    let begins : IsCutBefore p.width c.cut-left.result f.left = IsCut-same _ p.width c.cut-left.result _ f.left c.width.ensures.value (search rules) c.cut-left.ensures.value in
    let ends : IsCutBefore p.width c.cut-right.result f.right = IsCut-same _ p.width c.cut-right.result _ f.right c.width-2.ensures.value (search rules) c.cut-right.ensures.value in
    let low : IsCutBefore p.height c.cut-bottom.result f.bottom = IsCut-same _ p.height c.cut-bottom.result _ f.bottom c.height.ensures.value (search rules) c.cut-bottom.ensures.value in
    let high : IsCutBefore p.height c.cut-top.result f.top = IsCut-same _ p.height c.cut-top.result _ f.top c.height-2.ensures.value (search rules) c.cut-top.ensures.value in
    let last : c.loop-row.row ≡ max c.cut-top.result c.cut-bottom.result = omega arith in
    rows_all f c.cut-left.result c.cut-right.result c.cut-bottom.result c.cut-top.result c.args.color p c.loop-row.pixmap p begins ends
    c.loop-row.row low high last c.loop-row.invariant
