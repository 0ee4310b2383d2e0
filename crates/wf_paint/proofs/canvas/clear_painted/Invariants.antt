use Rattle.wf_paint.specs.Cells.{AreBlocks}
use Rattle.wf_paint.proofs.canvas.clear_painted.Given as goal

abbrev pub invariant-loop-index : goal.invariant-loop-index
invariant-loop-index l = AreBlocks l.width l.height l.free.items l.blocks.items
