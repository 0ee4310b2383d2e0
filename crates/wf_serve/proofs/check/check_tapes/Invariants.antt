-- The first tapes were read, and the longest is kept.
use Rattle.wf_serve.proofs.Checked.{HaveRead}
use Rattle.wf_serve.proofs.check.check_tapes.Given as goal
use Rattle.wf_store.specs.Call.{OnlyReads}

abbrev pub invariant-loop-number : goal.invariant-loop-number
invariant-loop-number g l = record {
  have : HaveRead l.fn.tapes l.number l.longest (g.S.Store.calls l.fn.store) (g.S.Store.calls l.store);
  reads : OnlyReads (g.S.Store.calls l.fn.store) (g.S.Store.calls l.store);
}
