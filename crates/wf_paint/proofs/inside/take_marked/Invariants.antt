use Rattle.std.proofs.Common.{length}
use Rattle.wf_paint.proofs.MarksLemmas.{AreTaken}
use Rattle.wf_paint.proofs.inside.take_marked.Given as goal

abbrev pub invariant-loop-number : goal.invariant-loop-number
invariant-loop-number l = AreTaken l.fn.reaches.items (length l.initial.odd.items) l.number l.reaches.items l.odd.items
