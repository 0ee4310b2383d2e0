use Rattle.wf_paint.specs.Cells.{AreBlocks}
use Rattle.wf_paint.proofs.canvas.clear_row.Given as goal

abbrev pub invariant-loop-block : goal.invariant-loop-block
invariant-loop-block l = AreBlocks l.width l.height l.free.items l.blocks.items
