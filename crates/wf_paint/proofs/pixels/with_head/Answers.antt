use Rattle.std.proofs.Common.{arith}
use Rattle.wf_paint.proofs.PlainLemmas.{head_none, head_all}
use Rattle.wf_paint.proofs.pixels.with_head.Goals as goal

pub loop-index-init : goal.loop-index-init
loop-index-init c = head_none c.args.head.now c.args.bytes.items

pub returns : goal.returns
returns c = head_all c.loop-index.index c.args.head.now c.args.bytes.items c.loop-index.bytes.items (omega arith) c.loop-index.invariant
