-- The first tapes were looked for.
use Rattle.std.proofs.Common.{◌≡◌, length}
use Rattle.wf_serve.specs.Start.{looks}
use Rattle.wf_serve.proofs.survey.look_for_tapes.Given as goal
use Rattle.wf_store.specs.Call.{OnlyReads}

abbrev pub invariant-loop-number : goal.invariant-loop-number
invariant-loop-number g l = record {
  size : length l.tapes ≡ 64;
  seen : g.S.Store.calls l.store ≡ looks l.tapes l.number (g.S.Store.calls l.fn.store);
  reads : OnlyReads (g.S.Store.calls l.fn.store) (g.S.Store.calls l.store);
}
