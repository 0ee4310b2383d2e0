use Rattle.wf_paint.proofs.PlainLemmas.{BeginsWith}
use Rattle.wf_paint.proofs.pixels.with_head.Given as goal

abbrev pub invariant-loop-index : goal.invariant-loop-index
invariant-loop-index l = BeginsWith l.index l.head l.fn.bytes.items l.bytes.items
