use Rattle.std.proofs.Common.{rules}
use Rattle.wf_label.proofs.ColoredLemmas.{IsCut-same}
use Rattle.wf_label.proofs.taken.block_of.Goals as goal

pub returns-clause-left : goal.returns-clause-left
returns-clause-left c = IsCut-same _ c.args.view.now.width c.cut-left.result _ c.args.pixel_box.now.left c.width.ensures.value (search rules) c.cut-left.ensures.value

pub returns-clause-right : goal.returns-clause-right
returns-clause-right c = IsCut-same _ c.args.view.now.width c.cut-right.result _ c.args.pixel_box.now.right c.width-2.ensures.value (search rules) c.cut-right.ensures.value

pub returns-clause-bottom : goal.returns-clause-bottom
returns-clause-bottom c = IsCut-same _ c.args.view.now.height c.cut-bottom.result _ c.args.pixel_box.now.bottom c.height.ensures.value (search rules) c.cut-bottom.ensures.value

pub returns-clause-top : goal.returns-clause-top
returns-clause-top c = IsCut-same _ c.args.view.now.height c.cut-top.result _ c.args.pixel_box.now.top c.height-2.ensures.value (search rules) c.cut-top.ensures.value
