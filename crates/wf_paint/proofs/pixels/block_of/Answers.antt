use Rattle.std.proofs.Common.{arith}
use Rattle.wf_paint.proofs.PlainLemmas.{written_plain}
use Rattle.wf_paint.proofs.pixels.block_of.Goals as goal

pub loop-index-preserved : goal.loop-index-preserved
loop-index-preserved c = written_plain c.loop-index.index 3072 c.args.color c.loop-index.block (omega arith) c.loop-index.invariant
