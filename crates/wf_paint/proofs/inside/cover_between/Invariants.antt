use Rattle.wf_paint.proofs.WalkLemmas.{IsWalked}
use Rattle.wf_paint.proofs.inside.cover_between.Given as goal

abbrev pub invariant-loop-to : goal.invariant-loop-to
invariant-loop-to l = IsWalked l.row l.reaches l.to-index l.from l.is_covered l.color l.initial.canvas l.canvas
