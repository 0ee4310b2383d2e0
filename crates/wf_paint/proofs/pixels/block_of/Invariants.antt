use Rattle.wf_paint.proofs.PlainLemmas.{BeginsPlain}
use Rattle.wf_paint.proofs.pixels.block_of.Given as goal

abbrev pub invariant-loop-index : goal.invariant-loop-index
invariant-loop-index l = BeginsPlain l.index 3072 l.color l.block
