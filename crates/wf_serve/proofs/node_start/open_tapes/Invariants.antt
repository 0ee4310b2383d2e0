-- This many nodes are opened, each at its index.
use Rattle.std.proofs.Common.{◌≡◌, length}
use Rattle.wf_serve.specs.OpenedNodes.{AreOpened}
use Rattle.wf_serve.specs.Start.{HaveOpened}
use Rattle.wf_serve.proofs.node_start.open_tapes.Given as goal

abbrev pub invariant-loop-number : goal.invariant-loop-number
invariant-loop-number g l = record {
  opened : AreOpened l.fn.n l.hosts.items;
  size : length l.hosts.items ≡ l.number;
  calls : HaveOpened l.number (g.S.Store.calls l.fn.store) (g.S.Store.calls l.store);
}
